-- What mend leaves: exactly the symbols that fit, and after a run the twin's.
use Rattle.std.proofs.Common.{◌≡◌, ℕ, ◌+◌, ◌-◌, ◌<◌, ◌≤◌, true, false, ◌⊎◌, ◌↔◌, sym, refl, ap, ◌∙◌, subst, inl, inr, arith}
use Rattle.std.proofs.lemmas.Bool.{true_from_ne_false, cases_Bool, cases_lt, and_parts, and_from, not-true, not_from_true, not_from_false, both_ways, lt-ltb}
use Rattle.algebra.specs.Algebra.{Field}
use Rattle.shelves.specs.Contents.{Contents, symbol}
use Rattle.rules.specs.Codes.{combination, differ, table, table_block}
use Rattle.rules.specs.States.{State, symbol_or, k, p, n, m, cell, with_cells, symbol_at, fits, sound, unsound_count}
use Rattle.rules.specs.Calls.{mend, Answer}
use Rattle.rules.specs.Updates.{Worked, worked_misfit, mended_cells}
use Rattle.rules.specs.Promises.{Line, unfit, early, misfit_mend, too_many, Promise, rejected, accepted, did_mend}
use Rattle.rules.specs.Twins.{EqualRow, AtMostStruck}
use Rattle.rules.specs.Exact.{Whole, ParityFits, Mends, MendExact}
use Rattle.rules.specs.declared.Refusal.{Refusal}
use Rattle.rules.proofs.Counted.{counted_none, counted_among, passing, length_passing, in_passing}
use Rattle.rules.proofs.Found.{nothing, lowest_pair_none, lowest_pair_some}
use Rattle.rules.proofs.Kept.{Kept, sound_equal, unsound_struck}
use Rattle.rules.proofs.Rows.{cell_inside, read_back, sound_means, equal_sound, whole_same}
use Rattle.rules.proofs.Tables.{differ_same, same_differ, component_same, combination_same, component_combination, table_same, block_data, block_parity, table_place, table_card}
use Rattle.rules.proofs.Working.{bad, good, worked_unique}

module _ {X : Type 0} (F : Field X) (s : State X) where
  -- what a mended row holds
  module _ (fit : fits F s ≡ true) (blocks : ℕ → ℕ → X) (row place : ℕ) (h : row < k s + p s) (l : place < n s + m s) where
    mended_sound : sound F s row ≡ true → cell (with_cells s (mended_cells F s blocks)) row place ≡ cell s row place
    mended_sound e = cell_inside F s fit (mended_cells F s blocks) row place h l ∙ rw (lt-ltb row (k s + p s) h, lt-ltb place (n s + m s) l, e)

    mended_bad : sound F s row ≡ false → cell (with_cells s (mended_cells F s blocks)) row place ≡ symbol (table F (k s) (n s) blocks row place)
    mended_bad e = cell_inside F s fit (mended_cells F s blocks) row place h l ∙ rw (lt-ltb row (k s + p s) h, lt-ltb place (n s + m s) l, e)

  pub few_of : ((q : Refusal) → Line F s mend q → ⊥) → unsound_count F s ≤ p s
  few_of none = elim (cases_lt (p s) (unsound_count F s)) [ inl h ↦ absurd (none _ (too_many h)) | inr h ↦ h ]

  module _ (none : (q : Refusal) → Line F s mend q → ⊥) (blocks : ℕ → ℕ → X) (worked : Worked F s blocks) where
    fit : fits F s ≡ true
    fit = true_from_ne_false _ (λ e. none _ (unfit mend e))

    abbrev after : State X
    after = with_cells s (mended_cells F s blocks)

    -- the blocks of every row, sound or mended, are those of the table
    sound_block : (row place : ℕ) → row < k s + p s → place < n s → sound F s row ≡ true → symbol_at F s row place ≡ table_block F (k s) blocks row place
    sound_block row place h l e =
        elim (cases_lt row (k s)) [
          | inl less ↦ ap (symbol_or F.zer) (worked.keeps row place less l e) ∙ sym (block_data F (k s) blocks row place less)
          | inr more ↦
              let at : k s + (row - k s) ≡ row = omega arith in
              subst (λ r. symbol_at F s r place ≡ table_block F (k s) blocks r place) at
              (sym (differ_same F _ _ (fits_there (row - k s) (omega arith) (rw at e))) ∙ sym (block_parity F (k s) blocks (row - k s) place))
        ]
      where
        fits_there : (i : ℕ) → i < p s → good F s i ≡ true → differ F (combination F (k s) (λ j. blocks j place) i) (symbol_at F s (k s + i) place) ≡ false
        fits_there i o g =
            elim (cases_Bool (differ F (combination F (k s) (λ j. blocks j place) i) (symbol_at F s (k s + i) place))) [
              | inl d ↦ absurd (both_ways _
                  (lowest_pair_none (p s) (n s) (worked_misfit F s blocks)
                  (nothing _ λ x e. none _ (misfit_mend blocks x.0 x.1 worked e)) i place o l)
                  (and_from _ _ g d))
              | inr d ↦ d
            ]

    block_after : (row place : ℕ) → row < k s + p s → place < n s → symbol_at F after row place ≡ table_block F (k s) blocks row place
    block_after row place h l =
        elim (cases_Bool (sound F s row)) [
          | inl e ↦ ap (symbol_or F.zer) (mended_sound fit blocks row place h (omega arith) e) ∙ sound_block row place h l e
          | inr e ↦ ap (symbol_or F.zer) (mended_bad fit blocks row place h (omega arith) e) ∙ table_place F (k s) blocks (n s) row place l
        ]

    mends : Mends F s after.contents
    mends = record {
      untouched = λ row place h l e. mended_sound fit blocks row place h l e;
      whole = λ row h. elim (cases_Bool (sound F s row)) [ inl e ↦ whole_sound row h e | inr e ↦ whole_bad row h e ];
      agreeing = λ i place h l.
          block_after (k s + i) place (omega arith) l ∙ block_parity F (k s) blocks i place
          ∙ combination_same F (k s) _ _ i (λ j o. sym (block_after j place (omega arith) l ∙ block_data F (k s) blocks j place o));
    }
      where
        whole_sound : (row : ℕ) → row < k s + p s → sound F s row ≡ true → Whole F (n s) (m s) (cell after row)
        whole_sound row h e =
            let w = (sound_means F s row).0 e in
            let same : (place : ℕ) → place < n s + m s → cell after row place ≡ cell s row place = λ place l. mended_sound fit blocks row place h l e in
            record {
              symbols = λ place l. ((w.symbols place l).0, same place l ∙ (w.symbols place l).1);
              card = λ c l. ap (symbol_or F.zer) (same (n s + c) (omega arith)) ∙ w.card c l
                  ∙ component_same F (n s) _ _ c (λ i o. ap (symbol_or F.zer) (sym (same i (omega arith))));
            }

        whole_bad : (row : ℕ) → row < k s + p s → sound F s row ≡ false → Whole F (n s) (m s) (cell after row)
        whole_bad row h e = record {
          symbols = λ place l. (_, mended_bad fit blocks row place h l e);
          card = λ c l. ap (symbol_or F.zer) (mended_bad fit blocks row (n s + c) h (omega arith) e) ∙ table_card F (k s) blocks (n s) row c
              ∙ component_same F (n s) _ _ c (λ i o. sym (block_after row i h o));
        }

    module _ (other : Contents X) (w : Mends F s other) where
      abbrev held : ℕ → ℕ → X
      held row place = symbol_or F.zer (other.at row place)

      stands : (row place : ℕ) → row < k s + p s → place < n s → sound F s row ≡ true → cell s row place ≡ symbol (held row place)
      stands row place h l e = sym (w.untouched row place h (omega arith) e) ∙ read_back F.zer ((w.whole row h).symbols place (omega arith))

      held_worked : Worked F s held
      held_worked = record {
        keeps = λ j place h l e. stands j place (omega arith) l e;
        solves = λ i place h l e. stands (k s + i) place (omega arith) l (and_parts _ _ e).0 ∙ ap symbol (w.agreeing i place h l);
      }

      held_block : (row place : ℕ) → row < k s + p s → place < n s → held row place ≡ table_block F (k s) blocks row place
      held_block row place h l =
          let same : (j : ℕ) → j < k s → held j place ≡ blocks j place = λ j o. worked_unique F s fit (few_of none) held blocks held_worked worked j place o l in
          elim (cases_lt row (k s)) [
            | inl less ↦ same row less ∙ sym (block_data F (k s) blocks row place less)
            | inr more ↦
                let at : k s + (row - k s) ≡ row = omega arith in
                subst (λ r. held r place ≡ table_block F (k s) blocks r place) at
                (w.agreeing (row - k s) place (omega arith) l ∙ combination_same F (k s) _ _ _ same ∙ sym (block_parity F (k s) blocks (row - k s) place))
          ]

      only : (row place : ℕ) → row < k s + p s → place < n s + m s → other.at row place ≡ cell after row place
      only row place h = whole_same F (w.whole row h) (mends.whole row h) (λ i l. held_block row i h l ∙ sym (block_after row i h l)) place

-- parity rows of whole rows that fit in their blocks fit in their cards
cards_fit : {X : Type 0} (F : Field X) (s : State X) (after : Contents X) → Mends F s after
    → (i place : ℕ) → i < p s → place < n s + m s → ParityFits F (k s) (λ r t. symbol_or F.zer (after.at r t)) i place
cards_fit {X} F s after w i place h l =
    elim (cases_lt place (n s)) [
      | inl less ↦ w.agreeing i place h less
      | inr more ↦
          let e : n s + (place - n s) ≡ place = omega arith in
          subst (ParityFits F (k s) x i) e
          ((w.whole (k s + i) (omega arith)).card (place - n s) (omega arith)
          ∙ component_same F (n s) _ _ _ (λ t o. w.agreeing i t h o) ∙ component_combination F (n s) (k s) x i _
          ∙ combination_same F (k s) _ _ i (λ j o. sym ((w.whole j (omega arith)).card (place - n s) (omega arith))))
    ]
  where
    x : ℕ → ℕ → X
    x r t = symbol_or F.zer (after.at r t)

pub mend_exact : {X : Type 0} (F : Field X) → MendExact F
mend_exact F s count s' (accepted none (did_mend blocks worked)) = (mends F s none blocks worked, cards_fit F s _ (mends F s none blocks worked), only F s none blocks worked)

module _ {X : Type 0} (F : Field X) (s : State X) (blocks : ℕ → ℕ → X) (kept : Kept F blocks s) where
  -- the twin's symbols stand in the sound rows
  twin_block : (row place : ℕ) → row < k s + p s → place < n s → sound F s row ≡ true → cell s row place ≡ symbol (table_block F (k s) blocks row place)
  twin_block row place h l e = (sound_equal F blocks s kept row h).0 e place (omega arith) ∙ ap symbol (table_place F (k s) blocks (n s) row place l)

  pub twin_worked : Worked F s blocks
  twin_worked = record {
    keeps = λ j place h l e. twin_block j place (omega arith) l e ∙ ap symbol (block_data F (k s) blocks j place h);
    solves = λ i place h l e. twin_block (k s + i) place (omega arith) l (and_parts _ _ e).0 ∙ ap symbol (block_parity F (k s) blocks i place);
  }

  few_struck : (unsound_count F s ≤ p s) ↔ AtMostStruck F (p s) blocks s
  few_struck = (
    λ few. (passing (k s + p s) (bad F s), omega (arith, length_passing (k s + p s) (bad F s)), λ row h b. in_passing _ (bad F s) row h (not_from_false _ ((unsound_struck F blocks s kept row h).1 b))),
    λ most. omega (arith, most.1, counted_among most.0 (k s + p s) (bad F s) (λ row h e. most.2 row h ((unsound_struck F blocks s kept row h).0 (not-true _ e)))),
  )

  module _ (few : unsound_count F s ≤ p s) (blocks' : ℕ → ℕ → X) (worked : Worked F s blocks') where
    worked_twin : (j place : ℕ) → j < k s → place < n s → blocks' j place ≡ blocks j place
    worked_twin = worked_unique F s kept.fitting few blocks' blocks worked twin_worked

    pub mended_equal : (row : ℕ) → row < k s + p s → EqualRow F blocks (with_cells s (mended_cells F s blocks')) row
    mended_equal row h place l =
        elim (cases_Bool (sound F s row)) [
          | inl e ↦ mended_sound F s kept.fitting blocks' row place h l e ∙ (sound_equal F blocks s kept row h).0 e place l
          | inr e ↦ mended_bad F s kept.fitting blocks' row place h l e ∙ ap symbol (table_same F (k s) (n s) blocks' blocks worked_twin row place)
        ]

    no_misfit : (i place : ℕ) → i < p s → place < n s → worked_misfit F s blocks' i place ≡ true → ⊥
    no_misfit i place h l e =
        let q = and_parts _ _ e in
        both_ways _ (same_differ F _ _ (combination_same F (k s) _ _ i (λ j o. worked_twin j place o l)
        ∙ sym (ap (symbol_or F.zer) (twin_block (k s + i) place (omega arith) l q.0) ∙ block_parity F (k s) blocks i place))) q.1

  pub refused_many : {r : Refusal} → Line F s mend r → p s < unsound_count F s
  refused_many (unfit c e) = absurd (both_ways _ e kept.fitting)
  refused_many (early c _ e) = absurd (both_ways _ e kept.taken)
  refused_many (too_many h) = h
  refused_many (misfit_mend blocks' i place worked e) =
      elim (cases_lt (p s) (unsound_count F s)) [
        | inl h ↦ h
        | inr few ↦ let q = lowest_pair_some (p s) (n s) _ i place e in absurd (no_misfit few blocks' worked i place q.0 q.1 q.2)
      ]

  -- Refused with too many rows not sound, and nothing changed; or every row the twin's.
  mend_ways : (answer : Answer X) (s' : State X) → Promise F s mend answer s'
      → ((p s < unsound_count F s) × (s' ≡ s)) ⊎ ((unsound_count F s ≤ p s) × Kept F blocks s' × ((row : ℕ) → row < k s + p s → EqualRow F blocks s' row))
  mend_ways answer s' (rejected r line first) = inl (refused_many line, refl)
  mend_ways answer s' (accepted none (did_mend blocks' worked)) =
      let equal = mended_equal (few_of F s none) blocks' worked in
      inr (few_of F s none, record { fitting = kept.fitting; taken = kept.taken; each_row = λ row h. inl (equal row h) }, equal)

  module _ (answer : Answer X) (s' : State X) (promise : Promise F s mend answer s') where
    pub mend_equal : ((row : ℕ) → row < k s + p s → EqualRow F blocks s' row) ↔ AtMostStruck F (p s) blocks s
    mend_equal = elim (mend_ways answer s' promise) [
      | inl many ↦ (
        λ all. absurd (omega (arith, many.0, counted_none (k s + p s) (bad F s) λ row h. not_from_true _ (equal_sound F s blocks row (subst (λ t. EqualRow F blocks t row) many.1 (all row h))))),
        λ most. absurd (omega (arith, many.0, few_struck.1 most)),
      )
      | inr whole ↦ (λ all. few_struck.0 whole.0, λ most. whole.2)
    ]

    pub mend_kept : Kept F blocks s'
    mend_kept = elim (mend_ways answer s' promise) [ inl many ↦ subst (Kept F blocks) (sym many.1) kept | inr whole ↦ whole.1 ]
