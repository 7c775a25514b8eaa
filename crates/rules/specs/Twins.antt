-- The twin, which is the reference copy: the table that the tray should hold, and is stored nowhere. Struck rows, which are those with damage of a kind that an audit
-- is sure to find; damage, runs, and the law over runs.
use Rattle.std.specs.Prelude.{◌≡◌, ℕ, ◌+◌, ◌-◌, ◌<◌, ◌≤◌, true, cond, ◌&&◌, ◌⊎◌, ◌↔◌, List, length, ◌==◌, nat_le, nat_lt, slice_index_or}
use mathlib.Core.List.{Memᴰ as In}
use Rattle.algebra.specs.Algebra.{Field}
use Rattle.shelves.specs.Contents.{Contents, Cell, symbol, hole}
use Rattle.rules.specs.Codes.{table}
use Rattle.rules.specs.States.{State, new, k, p, n, m, cell, with_cells, symbol_at}
use Rattle.rules.specs.Calls.{Call, intake, audit, mend, write, Answer, done, judged}
use Rattle.rules.specs.Updates.{allowed}
use Rattle.rules.specs.Promises.{Promise}
use Rattle.rules.specs.declared.Sizes.{Sizes}
use Rattle.rules.specs.declared.Verdict.TheVariants.{Sound}

-- the symbols xs set in one row of blocks, from start on
abbrev pub overwritten : {X : Type 0} → (ℕ → ℕ → X) → ℕ → ℕ → List X → ℕ → ℕ → X
overwritten blocks row start xs j place =
    cond (j == row && nat_le start place && nat_lt place (start + length xs)) (slice_index_or xs (place - start) (blocks j place)) (blocks j place)

-- A row of n block places and m card places, by what it holds and what its twin holds.
module _ {X : Type 0} (n m : ℕ) (held : ℕ → Cell X) (owed : ℕ → X) where
  -- the twin's symbol stands at the place
  abbrev pub Same : ℕ → Type 0
  Same place = held place ≡ symbol (owed place)

  -- A row equals its twin.
  abbrev pub Equal : Type 0
  Equal = (place : ℕ) → place < n + m → Same place

  -- A struck row has a hole, or differs from its twin in card places alone, or in one to m block places alone.
  pub data Struck : Type 0 where
    holed : (place : ℕ) → place < n + m → held place ≡ hole → Struck
    card_off : ((place : ℕ) → place < n → Same place)
        → (place : ℕ) → n ≤ place → place < n + m → (Same place → ⊥) → Struck
    block_off : ((place : ℕ) → n ≤ place → place < n + m → Same place)
        → (places : List ℕ) → length places ≤ m → ((place : ℕ) → place < n → Same place ⊎ In place places)
        → (place : ℕ) → place < n → (Same place → ⊥) → Struck

module _ {X : Type 0} (F : Field X) where
  -- What the twin holds. Its data blocks are kept, its parity blocks and its cards always worked afresh from them.
  abbrev pub twin_at : (ℕ → ℕ → X) → State X → ℕ → ℕ → X
  twin_at blocks s = table F (k s) (n s) blocks

  abbrev pub EqualRow : (ℕ → ℕ → X) → State X → ℕ → Type 0
  EqualRow blocks s row = Equal (n s) (m s) (cell s row) (twin_at blocks s row)

  abbrev pub StruckRow : (ℕ → ℕ → X) → State X → ℕ → Type 0
  StruckRow blocks s row = Struck (n s) (m s) (cell s row) (twin_at blocks s row)

  -- At most so many rows are struck.
  abbrev pub AtMostStruck : ℕ → (ℕ → ℕ → X) → State X → Type 0
  AtMostStruck count blocks s =
      (rows : List ℕ) × (length rows ≤ count) × ((row : ℕ) → row < k s + p s → StruckRow blocks s row → In row rows)

  -- The twin takes a write to a data row over an allowed span, with neither that row nor a parity row struck.
  pub record Takes (blocks : ℕ → ℕ → X) (s : State X) (row start : ℕ) (xs : List X) : Type 0 where
    pub of_data : row < k s
    pub spans : allowed s start (length xs) ≡ true
    pub row_clear : StruckRow blocks s row → ⊥
    pub parity_clear : (i : ℕ) → i < p s → StruckRow blocks s (k s + i) → ⊥

  -- What a call does to the twin: such a write sets its symbols, and all else leaves the twin as it stands.
  pub data Follows (blocks : ℕ → ℕ → X) (s : State X) (c : Call X) : (ℕ → ℕ → X) → Type 0 where
    takes : (row start : ℕ) (xs : List X) → c ≡ write row start xs → Takes blocks s row start xs → Follows blocks s c (overwritten blocks row start xs)
    stands : ((row start : ℕ) (xs : List X) → c ≡ write row start xs → Takes blocks s row start xs → ⊥) → Follows blocks s c blocks

  -- Damage changes cells and no sizes; after it each row equals its twin or is struck.
  abbrev pub Damage : (ℕ → ℕ → X) → State X → (ℕ → ℕ → Cell X) → Type 0
  Damage blocks s cells = (row : ℕ) → row < k s + p s → EqualRow blocks (with_cells s cells) row ⊎ StruckRow blocks (with_cells s cells) row

  -- A run, with the twin's data blocks and the tray's state at its end: a tray is made, intake accepts it, and calls and
  -- damage follow. The twin starts from the data blocks that were delivered, before intake.
  pub data Run : (ℕ → ℕ → X) → State X → Type 0 where
    starts : (sizes : Sizes) (contents : Contents X) (s : State X) → Promise F (new sizes contents) intake done s → Run (symbol_at F (new sizes contents)) s
    calls : {blocks : ℕ → ℕ → X} {s : State X} → Run blocks s → (c : Call X) (answer : Answer X) (s' : State X) → Promise F s c answer s'
        → (blocks' : ℕ → ℕ → X) → Follows blocks s c blocks' → Run blocks' s'
    damaged : {blocks : ℕ → ℕ → X} {s : State X} → Run blocks s → (cells : ℕ → ℕ → Cell X) → Damage blocks s cells → Run blocks (with_cells s cells)

  -- Every run goes on with any call, however it is answered: what the call does to the twin is always settled.
  abbrev pub GoesOn : Type 0
  GoesOn = (blocks : ℕ → ℕ → X) (s : State X) → Run blocks s → (c : Call X) (answer : Answer X) (s' : State X) → Promise F s c answer s'
      → (blocks' : ℕ → ℕ → X) × Follows blocks s c blocks'

  -- What audit of a row of the tray answers after a run: sound exactly when that row equals its twin.
  abbrev pub AuditFaithful : State X → ℕ → Answer X → Type 0
  AuditFaithful s row answer = (blocks : ℕ → ℕ → X) → Run blocks s → row < k s + p s → (answer ≡ judged Sound) ↔ EqualRow blocks s row

  -- What mend leaves after a run: the whole tray equal to the twin exactly when at most p rows were struck at that call.
  abbrev pub MendFaithful : State X → State X → Type 0
  MendFaithful s s' = (blocks : ℕ → ℕ → X) → Run blocks s → ((row : ℕ) → row < k s + p s → EqualRow blocks s' row) ↔ AtMostStruck (p s) blocks s

  -- The law over runs: whatever state a run has led to, audit and mend, called next, do this.
  abbrev pub Faithful : Type 0
  Faithful = (s : State X)
      → ((row : ℕ) (answer : Answer X) (s' : State X) → Promise F s (audit row) answer s' → AuditFaithful s row answer)
      × ((answer : Answer X) (s' : State X) → Promise F s mend answer s' → MendFaithful s s')
