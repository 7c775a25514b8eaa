-- What intake accepts and leaves, and what mend leaves: exactly the symbols that fit.
use Rattle.std.specs.Prelude.{◌≡◌, ℕ, ◌+◌, ◌<◌, true, ◌↔◌}
use Rattle.algebra.specs.Algebra.{Field}
use Rattle.shelves.specs.Contents.{Contents, Cell, symbol}
use Rattle.rules.specs.Codes.{component, combination}
use Rattle.rules.specs.States.{State, new, symbol_or, k, p, n, m, cell, symbol_at, fits, sound}
use Rattle.rules.specs.Calls.{intake, mend, Answer, done, mended}
use Rattle.rules.specs.Promises.{Promise}
use Rattle.rules.specs.declared.Sizes.{Sizes}

module _ {X : Type 0} (F : Field X) where
  -- A row of n block places and m card places with a symbol at every place and a fresh card.
  pub record Whole (n m : ℕ) (held : ℕ → Cell X) : Type 0 where
    pub symbols : (place : ℕ) → place < n + m → (x : X) × (held place ≡ symbol x)
    pub card : (c : ℕ) → c < m → symbol_or F.zer (held (n + c)) ≡ component F n (λ i. symbol_or F.zer (held i)) c

  -- Parity row i fits at a place, among these symbols of k data rows and the parity rows.
  abbrev pub ParityFits : ℕ → (ℕ → ℕ → X) → ℕ → ℕ → Type 0
  ParityFits k symbols i place = symbols (k + i) place ≡ combination F k (λ j. symbols j place) i

  -- What intake accepts: the tray fits, no block has a hole, and every parity row fits at every place of the blocks.
  pub record Acceptable (s : State X) : Type 0 where
    pub fitting : fits F s ≡ true
    pub readable : (row place : ℕ) → row < k s + p s → place < n s → (x : X) × (cell s row place ≡ symbol x)
    pub agreeing : (i place : ℕ) → i < p s → place < n s → ParityFits (k s) (symbol_at F s) i place

  -- What intake leaves: every block as it was, and every card the signature of its block.
  pub record TakenIn (s s' : State X) : Type 0 where
    pub blocks : (row place : ℕ) → row < k s + p s → place < n s → cell s' row place ≡ cell s row place
    pub cards : (row c : ℕ) → row < k s + p s → c < m s → cell s' row (n s + c) ≡ symbol (component F (n s) (symbol_at F s row) c)

  -- Intake accepts a new tray exactly when it is acceptable, and takes it in.
  abbrev pub IntakeExact : Type 0
  IntakeExact = (sizes : Sizes) (contents : Contents X) (answer : Answer X) (s' : State X) → Promise F (new sizes contents) intake answer s'
      → ((answer ≡ done) ↔ Acceptable (new sizes contents)) × (answer ≡ done → TakenIn (new sizes contents) s')

  -- Contents that mend tray s: its sound rows untouched, every row whole, every parity row fitting at every place.
  pub record Mends (s : State X) (after : Contents X) : Type 0 where
    pub untouched : (row place : ℕ) → row < k s + p s → place < n s + m s → sound F s row ≡ true → after.at row place ≡ cell s row place
    pub whole : (row : ℕ) → row < k s + p s → Whole (n s) (m s) (after.at row)
    pub agreeing : (i place : ℕ) → i < p s → place < n s → ParityFits (k s) (λ r t. symbol_or F.zer (after.at r t)) i place

  -- Exactly the symbols that fit: where mend accepts, what it leaves mends the tray, and nothing else does.
  -- Then parity rows fit in their cards too.
  abbrev pub MendExact : Type 0
  MendExact = (s : State X) (count : ℕ) (s' : State X) → Promise F s mend (mended count) s'
      → Mends s s'.contents
      × ((i place : ℕ) → i < p s → place < n s + m s → ParityFits (k s) (symbol_at F s') i place)
      × ((other : Contents X) → Mends s other → (row place : ℕ) → row < k s + p s → place < n s + m s → other.at row place ≡ cell s' row place)
