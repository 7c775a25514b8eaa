-- What a shelf means: its sizes, and at each place a symbol or a hole.
use Rattle.std.specs.Prelude.{◌≡◌, ℕ, Bool, true, false, cond, ◌&&◌, ◌==◌, nat_lt, Ok, Err, Result, Option, Some, None}
use Rattle.std.proofs.Common.{ap}
use Rattle.shelves.specs.declared.Got.{Got}
use Rattle.shelves.specs.declared.Got.TheVariants.{Symbol, Hole, Outside}
use Rattle.shelves.specs.declared.Outside.{Outside as Beyond}

-- what stands at one place: a symbol, or a hole, which is what the drive cannot read
pub data Cell (A : Type 0) : Type 0 where
  symbol : A → Cell A
  hole : Cell A

abbrev pub is_hole : {A : Type 0} → Cell A → Bool
is_hole (symbol x) = false
is_hole hole = true

-- a row and a place below the sizes
abbrev pub within : ℕ → ℕ → ℕ → ℕ → Bool
within rows places row place = nat_lt row rows && nat_lt place places

-- Beyond the sizes every place is a hole, so that shelves of the same meaning have equal contents.
pub record Contents (A : Type 0) : Type 0 where
  pub rows : ℕ
  pub places : ℕ
  pub at : ℕ → ℕ → Cell A
  pub beyond : (row place : ℕ) → within rows places row place ≡ false → is_hole (at row place) ≡ true

-- these cells inside the sizes, and holes beyond
abbrev pub filled : {A : Type 0} → ℕ → ℕ → (ℕ → ℕ → Cell A) → Contents A
filled rows places cells = record {
  rows = rows;
  places = places;
  at = λ row place. cond (within rows places row place) (cells row place) hole;
  beyond = λ row place e. ap (λ b. is_hole (cond b (cells row place) hole)) e;
}

-- no rows and no places
abbrev pub nothing : {A : Type 0} → Contents A
nothing = filled 0 0 (λ row place. hole)

abbrev pub inside : {A : Type 0} → Contents A → ℕ → ℕ → Bool
inside s row place = within s.rows s.places row place

abbrev pub got : {A : Type 0} → Cell A → Got A
got (symbol x) = Symbol x
got hole = Hole

-- the symbol that a get answered, where it answered one
abbrev pub symbol_of : {A : Type 0} → Got A → Option A
symbol_of (Symbol x) = Some x
symbol_of Hole = None
symbol_of Outside = None

abbrev pub get_answer : {A : Type 0} → Contents A → ℕ → ℕ → Got A
get_answer s row place = cond (inside s row place) (got (s.at row place)) Outside

abbrev pub put_answer : {A : Type 0} → Contents A → ℕ → ℕ → Result (Unit {0}) Beyond
put_answer s row place = cond (inside s row place) (Ok tt) (Err (record {}))

-- the same contents with a cell at one place; beyond the sizes the same
abbrev pub with_cell : {A : Type 0} → Contents A → ℕ → ℕ → Cell A → Contents A
with_cell s row place cell = filled s.rows s.places (λ r c. cond (r == row && c == place) cell (s.at r c))

-- a put changes its place alone, and beyond the sizes nothing
abbrev pub after_put : {A : Type 0} → Contents A → ℕ → ℕ → A → Contents A
after_put s row place x = with_cell s row place (symbol x)
