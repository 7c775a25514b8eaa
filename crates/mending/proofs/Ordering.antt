-- The puts of one row more.
use Rattle.std.proofs.Common.{◌≡◌, ℕ, ◌+◌, true, false, cond, [], ◌++◌, sym, ap, ◌∙◌, append-nil}
use native.Mathlib.Numerals.{unary_clauses}
use Rattle.algebra.specs.Algebra.{Field}
use Rattle.rules.specs.States.{State, sound}
use Rattle.shelves.specs.Puts.{PutsAt}
use Rattle.shelves.proofs.Puts.{same_places, puts_after}
use Rattle.rules.specs.Order.{whole_places, mended_places}

module _ {S X A : Type 0} (stores : S → ℕ → ℕ → X → S → Type 0) (F : Field A) (s : State A) (row : ℕ) where
  rest : {a b : S} → PutsAt stores a (mended_places F s row ++ cond (sound F s row) [] (whole_places s.sizes row)) b → PutsAt stores a (mended_places F s (row + 1)) b
  rest p = simp unary_clauses p

  pub sound_passed : {a b : S} → sound F s row ≡ true → PutsAt stores a (mended_places F s row) b → PutsAt stores a (mended_places F s (row + 1)) b
  sound_passed e p = rest (same_places stores (sym (append-nil (mended_places F s row)) ∙ ap (λ v. mended_places F s row ++ cond v [] (whole_places s.sizes row)) (sym e)) p)

  pub row_mended : {a b c : S} → sound F s row ≡ false → PutsAt stores a (mended_places F s row) b → PutsAt stores b (whole_places s.sizes row) c → PutsAt stores a (mended_places F s (row + 1)) c
  row_mended e p q = rest (same_places stores (ap (λ v. mended_places F s row ++ cond v [] (whole_places s.sizes row)) (sym e)) (puts_after stores p q))
