-- Parity row 0 is the plain sum of the data rows.
use Rattle.std.proofs.Common.{◌≡◌, ℕ, ◌+◌, ◌<◌, sym, ap, ◌∙◌, arith}
use Rattle.algebra.specs.Algebra.{Field}
use Rattle.algebra.specs.Theorems.{scale}
use Rattle.algebra.proofs.Ring.{one-mul, sub-zero}
use Rattle.algebra.proofs.Sums.{sum_below}
use Rattle.rules.specs.Parity.{FirstRowOnes, FirstRowSums}

module _ {X : Type 0} (F : Field X) where
  -- elements of different numbers differ
  numbers_differ : (i j : ℕ) → i < j → j < F.size → F.element i ≡ F.element j → ⊥
  numbers_differ i j l h e = omega (arith, sym (F.number_element i (omega arith)) ∙ ap F.number e ∙ F.number_element j h)

  pub first_row_ones : FirstRowOnes F
  first_row_ones j h = F.mul-inv (scale F j) (λ e. numbers_differ 0 (4 + j) (omega arith) h (sub-zero F _ _ e))

  pub first_row_sums : FirstRowSums F
  first_row_sums k room column = sum_below F k _ _ (λ j l. ap (λ g. F.mul g (column j)) (first_row_ones j (omega arith)) ∙ one-mul F (column j))
