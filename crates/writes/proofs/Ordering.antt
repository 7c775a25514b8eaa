-- The puts of one symbol more.
use Rattle.std.proofs.Common.{◌≡◌, ℕ, ◌+◌, ap, subst}
use native.Mathlib.Numerals.{unary_clauses}
use Rattle.rules.specs.declared.Sizes.{Sizes}
use Rattle.shelves.specs.Puts.{PutsAt}
use Rattle.shelves.proofs.Puts.{same_places, puts_after}
use Rattle.rules.specs.Order.{symbol_places, written_places}
use Rattle.writes.specs.Few.{Few}

module _ {S X : Type 0} (stores : S → ℕ → ℕ → X → S → Type 0) where
  pub symbol_more : {a b c : S} → (sizes held : Sizes) → held ≡ sizes → (row start i place : ℕ) → place ≡ start + i → PutsAt stores a (written_places sizes row start i) b
      → (Few held → PutsAt stores b (symbol_places held row place held.parity_rows) c) → Few sizes → PutsAt stores a (written_places sizes row start (i + 1)) c
  symbol_more {b = b} {c = c} sizes held same row start i place at before puts few =
      let now = subst (λ (v : Sizes). Few v → PutsAt stores b (symbol_places v row place v.parity_rows) c) same puts few in
      simp unary_clauses (puts_after stores before (same_places stores (ap (λ v. symbol_places sizes row v sizes.parity_rows) at) now))
