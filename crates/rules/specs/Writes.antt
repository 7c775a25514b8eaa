-- What an accepted write leaves: its symbols, parity rows that miss by as much as before, and fresh cards.
use Rattle.std.specs.Prelude.{◌≡◌, ℕ, ◌+◌, ◌<◌, true, ◌≢◌, List, map}
use Rattle.algebra.specs.Algebra.{Field, minus}
use Rattle.shelves.specs.Contents.{symbol}
use Rattle.rules.specs.Calls.{write, done}
use Rattle.rules.specs.Codes.{combination}
use Rattle.rules.specs.Exact.{ParityFits}
use Rattle.rules.specs.Promises.{Promise}
use Rattle.rules.specs.States.{State, k, p, n, cell, symbol_at, sound}
use Rattle.rules.specs.Twins.{overwritten}

module _ {X : Type 0} (F : Field X) where
  -- By how much parity row i misses what it should hold at a place, among these symbols of k data rows and the parity rows.
  abbrev pub miss : ℕ → (ℕ → ℕ → X) → ℕ → ℕ → X
  miss k symbols i place = minus F (symbols (k + i) place) (combination F k (λ j. symbols j place) i)

  pub record Wrote (s : State X) (row start : ℕ) (xs : List X) (s' : State X) : Type 0 where
    -- The symbols stand in the row from the start on, and all others of the data rows' blocks as they stood.
    pub blocks : (j place : ℕ) → j < k s → place < n s → cell s' j place ≡ overwritten (cell s) row start (map symbol xs) j place
    -- The other data rows are untouched, damaged or not.
    pub others : (j place : ℕ) → j < k s → j ≢ row → cell s' j place ≡ cell s j place
    -- A parity row misses at each place by as much as before,
    pub parity : (i place : ℕ) → i < p s → place < n s → miss (k s) (symbol_at F s') i place ≡ miss (k s) (symbol_at F s) i place
    -- so where it fitted, it fits.
    pub agreeing : (i place : ℕ) → i < p s → place < n s → ParityFits F (k s) (symbol_at F s) i place → ParityFits F (k s) (symbol_at F s') i place
    -- Rows that were sound are sound.
    pub cards : (r : ℕ) → r < k s + p s → sound F s r ≡ true → sound F s' r ≡ true

  -- Every accepted write leaves this.
  abbrev pub WriteExact : Type 0
  WriteExact = (s : State X) (row start : ℕ) (xs : List X) (s' : State X) → Promise F s (write row start xs) done s' → Wrote s row start xs s'
