-- Cards, parity, and the whole table over data blocks, over any field. A block is a function from places to elements.
use Rattle.std.specs.Prelude.{ℕ, ◌-◌, Bool, cond, not, ◌==◌, nat_lt}
use Rattle.algebra.specs.Algebra.{Field, power}
use Rattle.algebra.specs.Theorems.{coefficient}
use Rattle.algebra.specs.Sum.{sum_to}

module _ {X : Type 0} (F : Field X) where
  abbrev pub differ : X → X → Bool
  differ x y = not (F.number x == F.number y)

  -- what component c of a card takes powers of
  abbrev pub base : ℕ → X
  base c = power F F.α c

  -- component c of the card (the algebraic signature) of a block of n symbols
  abbrev pub component : ℕ → (ℕ → X) → ℕ → X
  component n block c = sum_to F n (λ i. F.mul (power F (base c) i) (block i))

  -- what parity row i holds where the k data rows hold the symbols of column
  abbrev pub combination : ℕ → (ℕ → X) → ℕ → X
  combination k column i = sum_to F k (λ j. F.mul (coefficient F i j) (column j))

  -- The blocks of all rows over the data rows' blocks: parity blocks are worked afresh.
  abbrev pub table_block : (data_rows : ℕ) → (ℕ → ℕ → X) → ℕ → ℕ → X
  table_block data_rows blocks row place =
      cond (nat_lt row data_rows) (blocks row place) (combination data_rows (λ j. blocks j place) (row - data_rows))

  -- All rows, with their cards: these are worked afresh too.
  abbrev pub table : (data_rows block : ℕ) → (ℕ → ℕ → X) → ℕ → ℕ → X
  table data_rows block blocks row place =
      cond (nat_lt place block) (table_block data_rows blocks row place) (component block (table_block data_rows blocks row) (place - block))
