-- What accepted calls make of a tray: fresh cards, writes, mended rows, and the round with its sheet.
use Rattle.std.specs.Prelude.{◌≡◌, ℕ, zero, suc, ◌+◌, ◌-◌, ◌<◌, Bool, true, false, cond, not, ◌&&◌, ◌||◌, List, [], ◌∷◌, ◌==◌, nat_le, nat_lt, slice_index_or}
use Rattle.algebra.specs.Algebra.{Field, power}
use Rattle.shelves.specs.Contents.{Cell, symbol, hole}
use Rattle.rules.specs.Codes.{base, component, combination, differ, table}
use Rattle.algebra.specs.Algebra.{minus}
use Rattle.algebra.specs.Theorems.{coefficient}
use Rattle.rules.specs.Search.{counted}
use Rattle.rules.specs.States.{State, symbol_or, k, p, n, m, cell, symbol_at, sound}
use Rattle.rules.specs.Calls.{is_sound}
use Rattle.rules.specs.declared.Entry.{Entry}
use Rattle.rules.specs.declared.Entry.TheVariants.{Unread, Read}
use Rattle.rules.specs.declared.Sheet.{Sheet}
use Rattle.rules.specs.declared.Round.{Round}
use Rattle.rules.specs.declared.Round.TheVariants.{Resting, Walking, Over}

-- the round, a scrub pass over the rows
abbrev pub walking : Round → Bool
walking Resting = false
walking (Walking row) = true
walking Over = false

abbrev pub over : Round → Bool
over Resting = false
over (Walking row) = false
over Over = true

-- the entries of the sheet, which has the results of a scrub pass: sound, and read but not sound
abbrev pub entry_sound : Entry → Bool
entry_sound Unread = false
entry_sound (Read v) = is_sound v

abbrev pub entry_bad : Entry → Bool
entry_bad Unread = false
entry_bad (Read v) = not (is_sound v)

-- the round at the next row of so many, or over
abbrev pub next_row : ℕ → ℕ → Round
next_row row rows = cond (nat_lt (row + 1) rows) (Walking (row + 1)) Over

-- what a sheet says of a row, and unread where it has no record
abbrev pub entry_at : Sheet → ℕ → Entry
entry_at sheet row = (slice_index_or sheet.records row (record { entry = Unread })).entry

module _ {X : Type 0} (s : State X) where
  -- start at most n, count at most n - start
  abbrev pub allowed : ℕ → ℕ → Bool
  allowed start count = nat_le start (n s) && nat_le count (n s - start)

  -- The row after this one, or over. No run walks beyond the rows; a walk that does is over with its next step.
  abbrev pub next_round : ℕ → Round
  next_round row = next_row row (k s + p s)

  -- what the sheet says of a row
  abbrev pub entry_of : ℕ → Entry
  entry_of = entry_at s.sheet

  -- a write to a data row touches that row and the parity rows; in each, place t and the card
  abbrev pub touched : ℕ → ℕ → ℕ → ℕ → Bool
  touched row t r place = (r == row || (nat_le (k s) r && nat_lt r (k s + p s))) && (place == t || (nat_le (n s) place && nat_lt place (n s + m s)))

module _ {X : Type 0} (F : Field X) (s : State X) where
  -- the symbols of a span, for a read
  abbrev pub span : ℕ → ℕ → ℕ → List X
  span row start zero = []
  span row start (suc count) = symbol_at F s row start ∷ span row (start + 1) count

  -- every card computed afresh
  abbrev pub carded : ℕ → ℕ → Cell X
  carded row place =
      cond (nat_lt row (k s + p s) && nat_le (n s) place && nat_lt place (n s + m s))
      (symbol (component F (n s) (symbol_at F s row) (place - n s)))
      (cell s row place)

  -- a symbol with d added; a hole stays one
  abbrev pub grow : X → Cell X → Cell X
  grow d (symbol x) = symbol (F.add x d)
  grow d hole = hole

  -- the own change of row r when data row `row` changes by d
  abbrev pub own_change : ℕ → X → ℕ → X
  own_change row d r = cond (r == row) d (F.mul (coefficient F (r - k s) row) d)

  -- how much a change at place t of the block counts at a place of the row: itself at t, its power in the card
  abbrev pub weight : ℕ → ℕ → X
  weight t place = cond (nat_lt place (n s)) F.one (power F (base F (place - n s)) t)

  -- one symbol written at place t, and then the next
  abbrev pub written_one : ℕ → ℕ → X → (ℕ → ℕ → Cell X) → ℕ → ℕ → Cell X
  written_one row t x cells r place =
      cond (touched s row t r place)
      (grow (F.mul (weight t place) (own_change row (minus F x (symbol_or F.zer (cells row t))) r)) (cells r place))
      (cells r place)

  abbrev pub written : ℕ → ℕ → List X → (ℕ → ℕ → Cell X) → ℕ → ℕ → Cell X
  written row t [] cells = cells
  written row t (x ∷ xs) cells = written row (t + 1) xs (written_one row t x cells)

  -- parity row i is one of the lowest sound parity rows, one for each data row that is not sound
  abbrev pub used : ℕ → Bool
  used i = sound F s (k s + i) && nat_lt (counted i (λ h. sound F s (k s + h))) (counted (k s) (λ j. not (sound F s j)))

  -- Data blocks worked by mend: they keep the sound data rows and make those parity rows fit.
  pub record Worked (blocks : ℕ → ℕ → X) : Type 0 where
    pub keeps : (j place : ℕ) → j < k s → place < n s → sound F s j ≡ true → cell s j place ≡ symbol (blocks j place)
    pub solves : (i place : ℕ) → i < p s → place < n s → used i ≡ true → cell s (k s + i) place ≡ symbol (combination F (k s) (λ j. blocks j place) i)

  -- sound parity row i does not fit at a place, against the data rows as mend has worked them
  abbrev pub worked_misfit : (ℕ → ℕ → X) → ℕ → ℕ → Bool
  worked_misfit blocks i place = sound F s (k s + i) && differ F (combination F (k s) (λ j. blocks j place) i) (symbol_at F s (k s + i) place)

  -- the rows that are not sound, with fresh cards, from those data blocks
  abbrev pub mended_cells : (ℕ → ℕ → X) → ℕ → ℕ → Cell X
  mended_cells blocks row place =
      cond (nat_lt row (k s + p s) && nat_lt place (n s + m s) && not (sound F s row))
      (symbol (table F (k s) (n s) blocks row place))
      (cell s row place)
