-- Any r rows of the parity matrix against any r columns have exactly one solution.
use Rattle.std.proofs.Common.{◌≡◌, ℕ, ◌+◌, ◌<◌, ◌≢◌, sym, ap, ◌∙◌, arith}
use Rattle.algebra.specs.Algebra.{Field, minus}
use Rattle.algebra.specs.Sum.{sum_to}
use Rattle.algebra.specs.Cauchy.{Points, row, solve}
use Rattle.algebra.specs.Theorems.{scale, coefficient, Square, Solves, solution, ExactlyOneSolution}
use Rattle.algebra.proofs.Ring.{mul-inv, mul_comm, mul_assoc, mul_cancel, sub_nonzero}
use Rattle.algebra.proofs.Sums.{sum_below}
use Rattle.algebra.proofs.Cauchy.{cauchy_unique, cauchy_solved}

module _ {A : Type 0} (F : Field A) where
  pub elements_differ : (v w : ℕ) → v < F.size → w < F.size → v ≢ w → F.element v ≢ F.element w
  elements_differ v w h k ne e = ne (sym (F.number_element v h) ∙ ap F.number e ∙ F.number_element w k)

  module _ (k r : ℕ) (rows columns : ℕ → ℕ) (q : Square F k r rows columns) where
    abbrev a : ℕ → A
    a i = F.element (rows i)

    abbrev b : ℕ → A
    b j = F.element (4 + columns j)

    row_small : (i : ℕ) → i < r → rows i < F.size
    row_small i h = omega (arith, q.rows_below i h, q.room)

    column_small : (j : ℕ) → j < r → 4 + columns j < F.size
    column_small j h = omega (arith, q.columns_below j h, q.room)

    points : Points r a b
    points = record {
      rows = λ i j h l ne. elements_differ _ _ (row_small i h) (row_small j l) (q.rows_differ i j h l ne);
      columns = λ i j h l ne. elements_differ _ _ (column_small i h) (column_small j l) (λ e. q.columns_differ i j h l ne (omega arith));
      apart = λ i j h l. elements_differ _ _ (row_small i h) (column_small j l) (λ e. omega (arith, q.rows_below i h));
    }

    scale_nonzero : (j : ℕ) → j < r → scale F (columns j) ≢ F.zer
    scale_nonzero j h = sub_nonzero F _ _ (elements_differ 0 (4 + columns j) (omega (arith, q.room)) (column_small j h) (λ e. omega arith))

    -- the matrix's row is the Cauchy system's, at the unknowns scaled
    scaled : (x : ℕ → A) (i : ℕ) → sum_to F r (λ j. F.mul (coefficient F (rows i) (columns j)) (x j)) ≡ row F r b (λ j. F.mul (scale F (columns j)) (x j)) (a i)
    scaled x i = sum_below F r _ _ (λ j h. ap (λ s. F.mul s (x j)) (mul_comm F _ _) ∙ mul_assoc F _ _ _)

    solved : (c : ℕ → A) → Solves F r rows columns c (solution F r rows columns c)
    solved c i h =
        scaled (solution F r rows columns c) i
        ∙ sum_below F r _ _ (λ j l. ap (λ s. F.mul (F.inv (minus F (a i) (b j))) s) (mul-inv F _ (scale_nonzero j l) _))
        ∙ cauchy_solved F r a b c points i h

    only : (c x : ℕ → A) → Solves F r rows columns c x → (j : ℕ) → j < r → x j ≡ solution F r rows columns c j
    only c x s j h =
        mul_cancel F _ _ _ (scale_nonzero j h)
        (cauchy_unique F r a b (λ l. F.mul (scale F (columns l)) (x l)) (solve F r a b c) points (λ i l. sym (scaled x i) ∙ s i l ∙ sym (cauchy_solved F r a b c points i l)) j h
        ∙ sym (mul-inv F _ (scale_nonzero j h) _))

  pub exactly_one_solution : ExactlyOneSolution F
  exactly_one_solution k r rows columns q c = (solved k r rows columns q c, only k r rows columns q c)
