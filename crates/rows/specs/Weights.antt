-- Elements and coefficients, by their numbers.
use Rattle.std.specs.Prelude.{◌≡◌, ℕ, ◌<◌, cond, nat_lt, List, slice_index}
use Rattle.algebra.specs.Algebra.{Field}
use Rattle.algebra.specs.Theorems.{coefficient}

-- the element of a number, and zero where there is none
unfoldable pub element_of : {A : Type 0} → Field A → ℕ → A
element_of F number = cond (nat_lt number F.size) (F.element number) F.zer

-- the list has the number of the coefficient of parity row i and each data row below count
abbrev pub Coefficients : {A : Type 0} → Field A → ℕ → ℕ → List ℕ → Type 0
Coefficients F i count numbers = (j : ℕ) → j < count → slice_index numbers j ≡ F.number (coefficient F i j)
