-- Parity row 0.
use Rattle.std.specs.Prelude.{◌≡◌, ℕ, ◌+◌, ◌<◌, ◌≤◌}
use Rattle.algebra.specs.Algebra.{Field}
use Rattle.algebra.specs.Sum.{sum_to}
use Rattle.algebra.specs.Theorems.{coefficient}
use Rattle.rules.specs.Codes.{combination}

module _ {X : Type 0} (F : Field X) where
  -- Its coefficients are all one, for every data row that the field has room for.
  abbrev pub FirstRowOnes : Type 0
  FirstRowOnes = (j : ℕ) → 4 + j < F.size → coefficient F 0 j ≡ F.one

  -- So it is the plain sum of the data rows.
  abbrev pub FirstRowSums : Type 0
  FirstRowSums = (k : ℕ) → k + 4 ≤ F.size → (column : ℕ → X) → combination F k column 0 ≡ sum_to F k column
