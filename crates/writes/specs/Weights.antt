-- What a write keeps by number: the coefficients of its data row, and the powers with which a place counts in a card.
use Rattle.std.specs.Prelude.{◌≡◌, ℕ, ◌<◌, List, slice_index}
use Rattle.algebra.specs.Algebra.{Field, power}
use Rattle.algebra.specs.Theorems.{coefficient}
use Rattle.rules.specs.Codes.{base}

module _ {A : Type 0} (F : Field A) where
  -- the list has the number of the coefficient of each parity row below count and the data row
  abbrev pub Column : ℕ → ℕ → List ℕ → Type 0
  Column row count numbers = (i : ℕ) → i < count → slice_index numbers i ≡ F.number (coefficient F i row)

  -- the list has the number of what each component below count takes powers of
  abbrev pub Bases : ℕ → List ℕ → Type 0
  Bases count numbers = (c : ℕ) → c < count → slice_index numbers c ≡ F.number (base F c)

  -- the list has the number of the power with which a place counts in each component below count
  abbrev pub PowersAt : ℕ → ℕ → List ℕ → Type 0
  PowersAt count place numbers = (c : ℕ) → c < count → slice_index numbers c ≡ F.number (power F (base F c) place)
