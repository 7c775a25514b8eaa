-- Algebraic signatures: a block of n symbols, seen as a polynomial, at a point.
use Rattle.std.specs.Prelude.{ℕ}
use Rattle.algebra.specs.Algebra.{Field, power}
use Rattle.algebra.specs.Sum.{sum_to}

module _ {A : Type 0} (F : Field A) where
  -- the sum over places i below n of point ^ i times symbol i
  abbrev pub signature : ℕ → (ℕ → A) → A → A
  signature n symbols point = sum_to F n (λ i. F.mul (power F point i) (symbols i))
