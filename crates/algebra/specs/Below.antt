-- The numbers below n, as a type of n elements.
use Rattle.std.specs.Prelude.{◌≡◌, ℕ, ◌%◌, ◌<◌}
use mathlib.Core.HLevel.{is_prop→PathP}
use Rattle.std.proofs.Common.{mod-lt}
use Rattle.std.proofs.Math.Bridge.{le_prop}

pub record Below (n : ℕ) : Type 0 where
  pub value : ℕ
  pub small : value < n

pub same_below : {n : ℕ} (x y : Below n) → x.value ≡ y.value → x ≡ y
same_below {n} x y e = λ i. record { value = e i; small = is_prop→PathP (λ j. e j < n) (λ j. le_prop) x.small y.small i }

-- every number stands for the element of its remainder
abbrev pub below : (n : ℕ) → 0 < n → ℕ → Below n
below n h v = record { value = v % n; small = mod-lt v h }
