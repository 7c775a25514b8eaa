-- Rows put whole: a block from weights, and its fresh card.
use Rattle.std.specs.Prelude.{ℕ, ◌+◌, ◌-◌, cond, ◌&&◌, ◌==◌, nat_lt}
use Rattle.algebra.specs.Algebra.{Field}
use Rattle.algebra.specs.Sum.{sum_to}
use Rattle.shelves.specs.Contents.{Contents, Cell, symbol}
use Rattle.rules.specs.Codes.{component}
use Rattle.rules.specs.Updates.{mended_cells}
use Rattle.rules.specs.Views.{seen_cell, seen, element_at}
use Rattle.rules.specs.declared.Sizes.{Sizes}

module _ {X A : Type 0} (F : Field A) (meaning : X → A) where
  -- what rows with these weights make at a place
  abbrev pub weighted_sum : Contents X → (ℕ → A) → ℕ → ℕ → A
  weighted_sum held weights rows place = sum_to F rows (λ row. F.mul (weights row) (element_at F meaning held row place))

  module _ (sizes : Sizes) (weights : ℕ → A) (row : ℕ) (before : Contents X) where
    abbrev pub worked : ℕ → A
    worked = weighted_sum before weights (sizes.data_rows + sizes.parity_rows)

    -- the first places of one row's block
    abbrev pub block_cells : ℕ → ℕ → ℕ → Cell A
    block_cells count r t = cond (r == row && nat_lt t count) (symbol (worked t)) (seen_cell meaning (before.at r t))

    -- one row, block and card
    abbrev pub row_cells : ℕ → ℕ → Cell A
    row_cells r t =
        cond (r == row && nat_lt t (sizes.block_length + sizes.card_length))
        (cond (nat_lt t sizes.block_length) (symbol (worked t)) (symbol (component F sizes.block_length worked (t - sizes.block_length))))
        (seen_cell meaning (before.at r t))

  -- the rows below a bound as mend leaves them, and the others as they were
  abbrev pub mended_below : Sizes → (ℕ → ℕ → A) → Contents X → ℕ → ℕ → ℕ → Cell A
  mended_below sizes blocks before row r t = cond (nat_lt r row) (mended_cells F (seen meaning sizes before) blocks r t) (seen_cell meaning (before.at r t))
