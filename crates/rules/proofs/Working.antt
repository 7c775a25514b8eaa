-- The data blocks that mend works: there are some, and all are the same.
use Rattle.std.proofs.Common.{◌≡◌, ℕ, ◌+◌, ◌<◌, ◌≤◌, Bool, true, not, sym, ap, ◌∙◌, arith}
use Rattle.std.proofs.lemmas.Bool.{and_parts, not-false, not_from_true}
use Rattle.algebra.specs.Algebra.{Field}
use Rattle.shelves.specs.Contents.{symbol}
use Rattle.rules.specs.Search.{counted}
use Rattle.rules.specs.States.{State, symbol_or, k, p, n, symbol_at, fits, sound, unsound_count}
use Rattle.rules.specs.Updates.{Worked}
use Rattle.rules.proofs.Counted.{counted_add, counted_not}
use Rattle.rules.proofs.Column.{column_unique, column, column_kept, column_solved}
use Rattle.rules.proofs.Rows.{fitting, read_back, sound_means}

module _ {X : Type 0} (F : Field X) (s : State X) where
  abbrev pub bad : ℕ → Bool
  bad row = not (sound F s row)

  abbrev pub good : ℕ → Bool
  good i = sound F s (k s + i)

  pub enough : unsound_count F s ≤ p s → counted (k s) bad ≤ counted (p s) good
  enough few = omega (arith, counted_add (k s) (p s) bad, counted_not (p s) good)

  -- what a sound row holds
  sound_symbol : (row place : ℕ) → place < n s → sound F s row ≡ true → s.contents.at row place ≡ symbol (symbol_at F s row place)
  sound_symbol row place l e = read_back F.zer (((sound_means F s row).0 e).symbols place (omega arith))

  module _ (fit : fits F s ≡ true) (few : unsound_count F s ≤ p s) where
    pub worked_blocks : ℕ → ℕ → X
    worked_blocks j place =
        column F (k s) (p s) (fitting F s fit).enough (fitting F s fit).p_high bad good (enough few) (λ j. symbol_at F s j place) (λ i. symbol_at F s (k s + i) place) j

    pub worked_exist : Worked F s worked_blocks
    unfolding worked_blocks
    worked_exist = record {
      keeps = λ j place h l e. sound_symbol j place l e ∙ ap symbol (sym (column_kept F _ _ _ _ bad good _ _ _ j (not_from_true _ e)));
      solves = λ i place h l e. sound_symbol (k s + i) place l (and_parts _ _ e).0 ∙ ap symbol (sym (column_solved F _ _ _ _ bad good _ _ _ i h e));
    }

    pub worked_unique : (f g : ℕ → ℕ → X) → Worked F s f → Worked F s g → (j place : ℕ) → j < k s → place < n s → f j place ≡ g j place
    worked_unique f g v w j place h l =
        column_unique F (k s) (p s) (fitting F s fit).enough (fitting F s fit).p_high bad good (enough few) (λ j. f j place) (λ j. g j place)
        (λ j h e. let e' = not-false _ e in ap (symbol_or F.zer) (sym (v.keeps j place h l e') ∙ w.keeps j place h l e'))
        (λ i h e. ap (symbol_or F.zer) (sym (v.solves i place h l e) ∙ w.solves i place h l e)) j h
