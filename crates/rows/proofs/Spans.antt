-- A span, read one symbol after the other.
use Rattle.std.proofs.Common.{◌≡◌, ℕ, zero, suc, ◌+◌, ◌<◌, List, [], ◌∷◌, ◌++◌, length, set, take, sym, ap, ◌∙◌, ap₂, add-zero, arith}
use Rattle.std.specs.Prelude.{map}
use Rattle.std.proofs.lemmas.List.{map-append, take_more_set}
use Rattle.algebra.specs.Algebra.{Field}
use Rattle.rules.specs.States.{State, symbol_at}
use Rattle.rules.specs.Updates.{span}

module _ {A : Type 0} (F : Field A) (s : State A) (row : ℕ) where
  -- the last symbol of a span by itself
  span_last : (start count : ℕ) → span F s row start (suc count) ≡ span F s row start count ++ (symbol_at F s row (start + count) ∷ [])
  span_last start zero = ap (λ v. symbol_at F s row v ∷ []) (sym (add-zero start))
  span_last start (suc count) =
      let e : start + 1 + count ≡ start + suc count = omega arith in
      ap (λ xs. symbol_at F s row start ∷ xs) (span_last (start + 1) count ∙ ap (λ v. span F s row (start + 1) count ++ (symbol_at F s row v ∷ [])) e)

  -- one more symbol in a buffer
  pub copied_more : {X : Type 0} (meaning : X → A) (start i : ℕ) (buffer : List X) (x : X) → i < length buffer
      → map meaning (take i buffer) ≡ span F s row start i → meaning x ≡ symbol_at F s row (start + i)
      → map meaning (take (i + 1) (set buffer i x)) ≡ span F s row start (i + 1)
  copied_more meaning start i buffer x inside before is =
      let e : suc i ≡ i + 1 = omega arith in
      ap (map meaning) (take_more_set buffer i x inside) ∙ map-append meaning (take i buffer) (x ∷ [])
      ∙ ap₂ (λ a b. a ++ (b ∷ [])) before is ∙ sym (span_last start i) ∙ ap (span F s row start) e
