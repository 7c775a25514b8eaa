-- A tray's state, and what can be read off it.
use Rattle.std.specs.Prelude.{ℕ, ◌+◌, Bool, false, not, ◌&&◌, replicate, Some, None, Option, ◌==◌, nat_le}
use Rattle.algebra.specs.Algebra.{Field}
use Rattle.shelves.specs.Contents.{Contents, Cell, symbol, hole, is_hole, filled}
use Rattle.rules.specs.Codes.{component, combination, differ}
use Rattle.rules.specs.Calls.{is_sound}
use Rattle.rules.specs.Search.{lowest, counted}
use Rattle.rules.specs.declared.Entry.TheVariants.{Unread}
use Rattle.rules.specs.declared.Round.{Round}
use Rattle.rules.specs.declared.Round.TheVariants.{Resting}
use Rattle.rules.specs.declared.Sheet.{Sheet}
use Rattle.rules.specs.declared.Sizes.{Sizes}
use Rattle.rules.specs.declared.Verdict.{Verdict}
use Rattle.rules.specs.declared.Verdict.TheVariants.{Sound, Hole, Card}

-- What a promise speaks of: all that a tray holds. A tray is a redundancy group: data rows, and parity rows worked from them.
pub record State (X : Type 0) : Type 0 where
  pub sizes : Sizes
  pub contents : Contents X
  pub taken_in : Bool
  pub round : Round
  pub sheet : Sheet

-- a sheet, the results of a scrub pass, on which nothing is read yet
abbrev pub unread : Sheet
unread = record { records = replicate 68 (record { entry = Unread }) }

-- a tray as it is made
abbrev pub new : {X : Type 0} → Sizes → Contents X → State X
new sizes contents = record { sizes = sizes; contents = contents; taken_in = false; round = Resting; sheet = unread }

-- k is 1 to 64, p is 1 to 4, n is 1 to 4,096 and m is 2 to 8
abbrev pub within_limits : Sizes → Bool
within_limits s =
    nat_le 1 s.data_rows && nat_le s.data_rows 64 && nat_le 1 s.parity_rows && nat_le s.parity_rows 4
    && nat_le 1 s.block_length && nat_le s.block_length 4096 && nat_le 2 s.card_length && nat_le s.card_length 8

module _ {X : Type 0} (s : State X) where
  -- data rows, parity rows, places of a block, places of a card
  abbrev pub k : ℕ
  k = s.sizes.data_rows

  abbrev pub p : ℕ
  p = s.sizes.parity_rows

  abbrev pub n : ℕ
  n = s.sizes.block_length

  abbrev pub m : ℕ
  m = s.sizes.card_length

  -- what stands at a place of a row
  abbrev pub cell : ℕ → ℕ → Cell X
  cell row place = s.contents.at row place

  -- the same tray with other cells inside its sizes
  abbrev pub with_cells : (ℕ → ℕ → Cell X) → State X
  with_cells cells = record {
    sizes = s.sizes;
    contents = filled s.contents.rows s.contents.places cells;
    taken_in = s.taken_in;
    round = s.round;
    sheet = s.sheet;
  }

-- the symbol of a cell, and another in place of a hole
abbrev pub symbol_or : {X : Type 0} → X → Cell X → X
symbol_or d (symbol x) = x
symbol_or d hole = d

-- a hole comes before a wrong card
abbrev pub verdict_of : Option ℕ → Option ℕ → Verdict
verdict_of (Some place) card = Hole place
verdict_of None (Some c) = Card c
verdict_of None None = Sound

module _ {X : Type 0} (F : Field X) (s : State X) where
  -- the symbol at a place, and zero where there is none
  abbrev pub symbol_at : ℕ → ℕ → X
  symbol_at row place = symbol_or F.zer (cell s row place)

  -- the tray fits: limits, field, and the shelf's sizes
  abbrev pub fits : Bool
  fits =
      within_limits s.sizes
      && nat_le (k s + 4) F.size && nat_le (n s) F.reach && s.contents.rows == k s + p s && s.contents.places == n s + m s

  -- The verdict of one row. Beyond the rows all places are holes, so there it is a hole at place 0.
  abbrev pub audited : ℕ → Verdict
  audited row =
      verdict_of (lowest (n s + m s) (λ place. is_hole (cell s row place)))
      (lowest (m s) (λ c. differ F (component F (n s) (symbol_at row) c) (symbol_at row (n s + c))))

  abbrev pub sound : ℕ → Bool
  sound row = is_sound (audited row)

  -- parity row i does not fit at a place, of block or card
  abbrev pub misfit : ℕ → ℕ → Bool
  misfit i place = differ F (combination F (k s) (λ j. symbol_at j place) i) (symbol_at (k s + i) place)

  -- how many rows are not sound
  abbrev pub unsound_count : ℕ
  unsound_count = counted (k s + p s) (λ row. not (sound row))
