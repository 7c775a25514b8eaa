-- The puts of a write, step by step, by the cells before and after.
use Rattle.std.specs.Prelude.{◌≡◌, ℕ, zero, suc, ◌+◌, ◌<◌, ◌≤◌, true, false, cond, ◌&&◌, List, length, ◌==◌, nat_le, nat_lt}
use Rattle.algebra.specs.Algebra.{Field}
use Rattle.algebra.specs.Theorems.{coefficient}
use Rattle.shelves.specs.Contents.{Contents, Cell, is_hole}
use Rattle.rules.specs.States.{State, k, n, m, cell, fits, with_cells}
use Rattle.rules.specs.Updates.{grow, weight, written_one, written}
use Rattle.rules.specs.Views.{seen_cell, seen_contents, seen}
use Rattle.rules.specs.declared.Sizes.{Sizes}
use Rattle.writes.specs.Weights.{Column}

module _ {A : Type 0} (F : Field A) (s : State A) where
  -- one symbol grown by d
  abbrev pub place_grown : ℕ → ℕ → A → (ℕ → ℕ → Cell A) → ℕ → ℕ → Cell A
  place_grown row t d cells r u = cond (r == row && u == t) (grow F s d (cells r u)) (cells r u)

  -- the components of a row's card below count, grown by a change d at place t of its block
  abbrev pub card_grown : ℕ → ℕ → A → ℕ → (ℕ → ℕ → Cell A) → ℕ → ℕ → Cell A
  card_grown row t d count cells r u = cond (r == row && nat_le (n s) u && nat_lt u (n s + count)) (grow F s (F.mul (weight F s t u) d) (cells r u)) (cells r u)

  -- a symbol of the block, and then the row's card
  abbrev pub row_grown : ℕ → ℕ → A → (ℕ → ℕ → Cell A) → ℕ → ℕ → Cell A
  row_grown row t d cells = card_grown row t d (m s) (place_grown row t d cells)

  -- the data row, and then the parity rows below count, each by its own change
  abbrev pub rows_grown : ℕ → ℕ → A → ℕ → (ℕ → ℕ → Cell A) → ℕ → ℕ → Cell A
  rows_grown row t d zero cells = row_grown row t d cells
  rows_grown row t d (suc i) cells = row_grown (k s + i) t (F.mul (coefficient F i row) d) (rows_grown row t d i cells)

module _ {X A : Type 0} (meaning : X → A) where
  abbrev pub cells_of : Contents X → ℕ → ℕ → Cell A
  cells_of held r u = seen_cell meaning (held.at r u)

  -- the sizes are as they were, and under a condition the cells are these
  pub record Puts (when : Type 0) (cells : ℕ → ℕ → Cell A) (before after : Contents X) : Type 0 where
    pub rows : after.rows ≡ before.rows
    pub places : after.places ≡ before.places
    pub at : when → (r u : ℕ) → cells_of after r u ≡ cells r u

module _ {X A : Type 0} (F : Field A) (meaning : X → A) (sizes : Sizes) where
  -- the tray fits, and the row is one of its rows and has no hole
  pub record Readable (held : Contents X) (row : ℕ) : Type 0 where
    pub fitting : fits F (seen meaning sizes held) ≡ true
    pub inside : row < sizes.data_rows + sizes.parity_rows
    pub filled : (u : ℕ) → u < sizes.block_length + sizes.card_length → is_hole (held.at row u) ≡ false

  -- the tray fits, and neither the data row nor a parity row has a hole
  pub record Writable (held : Contents X) (row : ℕ) : Type 0 where
    pub fitting : fits F (seen meaning sizes held) ≡ true
    pub inside : row < sizes.data_rows
    pub own : Readable held row
    pub parity : (i : ℕ) → i < sizes.parity_rows → Readable held (sizes.data_rows + i)

  -- one symbol of a write, with the coefficients kept by number
  abbrev pub OneWritten : ℕ → ℕ → List ℕ → A → Contents X → Contents X → Type 0
  OneWritten row place column x before after =
      Puts meaning
      (Writable before row × (place < sizes.block_length) × Column F row sizes.parity_rows column)
      (written_one F (seen meaning sizes before) row place x (cells_of meaning before))
      before after

  -- a whole write: where the row is a data row, the span ends in the block and no touched row has a hole, the contents are those that the write leaves
  pub record AllWritten (row start : ℕ) (xs : List A) (before after : Contents X) : Type 0 where
    pub rows : after.rows ≡ before.rows
    pub places : after.places ≡ before.places
    pub symbols : Writable before row → start + length xs ≤ sizes.block_length
        → seen_contents meaning after ≡ (with_cells (seen meaning sizes before) (written F (seen meaning sizes before) row start xs (cell (seen meaning sizes before)))).contents
