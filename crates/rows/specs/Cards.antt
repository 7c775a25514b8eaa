-- Contents before and after cards are put, cell by cell, where the tray fits.
use Rattle.std.specs.Prelude.{◌≡◌, ℕ, ◌+◌, ◌<◌, true, cond, ◌&&◌, ◌==◌, nat_lt}
use Rattle.algebra.specs.Algebra.{Field}
use Rattle.shelves.specs.Contents.{Contents, Cell}
use Rattle.rules.specs.States.{fits, with_cells}
use Rattle.rules.specs.Updates.{carded}
use Rattle.rules.specs.Views.{seen_cell, seen_contents, seen}
use Rattle.rules.specs.declared.Sizes.{Sizes}

module _ {X A : Type 0} (F : Field A) (meaning : X → A) (sizes : Sizes) where
  -- the sizes are as they were, and each cell is the given one
  pub record Holds (before : Contents X) (cells : ℕ → ℕ → Cell A) (after : Contents X) : Type 0 where
    pub rows : after.rows ≡ before.rows
    pub places : after.places ≡ before.places
    pub at : fits F (seen meaning sizes before) ≡ true → (r t : ℕ) → seen_cell meaning (after.at r t) ≡ cells r t

  -- of one row, the components of its card below count
  abbrev pub partly : Contents X → ℕ → ℕ → ℕ → ℕ → Cell A
  partly before row count r t = cond (r == row && nat_lt t (sizes.block_length + count)) (carded F (seen meaning sizes before) r t) (seen_cell meaning (before.at r t))

  -- all cards of the rows below row
  abbrev pub below : Contents X → ℕ → ℕ → ℕ → Cell A
  below before row r t = cond (nat_lt r row) (carded F (seen meaning sizes before) r t) (seen_cell meaning (before.at r t))

  -- one row's card, put by itself
  abbrev pub CardPut : ℕ → Contents X → Contents X → Type 0
  CardPut row before after = row < sizes.data_rows + sizes.parity_rows → Holds before (partly before row sizes.card_length) after

  -- all cards: the sizes are as they were, and where the tray fits the contents are those that an accepted intake leaves
  pub record CardsPut (before after : Contents X) : Type 0 where
    pub rows : after.rows ≡ before.rows
    pub places : after.places ≡ before.places
    pub cards : fits F (seen meaning sizes before) ≡ true
        → seen_contents meaning after ≡ (with_cells (seen meaning sizes before) (carded F (seen meaning sizes before))).contents
