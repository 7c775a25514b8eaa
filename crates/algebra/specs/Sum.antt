-- Finite sums over a field.
use Rattle.std.specs.Prelude.{ℕ, zero, suc}
use Rattle.algebra.specs.Algebra.{Field}

-- f 0 + .. + f (n - 1)
abbrev pub sum_to : {A : Type 0} (F : Field A) → ℕ → (ℕ → A) → A
sum_to F zero f = F.zer
sum_to F (suc n) f = F.add (sum_to F n f) (f n)
