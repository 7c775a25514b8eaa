-- Numbers modulo a prime.
use Rattle.std.specs.Prelude.{ℕ, zero, suc, ◌-◌, ◌*◌, ◌/◌, ◌%◌, ◌<◌, cond, ◌≢◌, nat_lt}

-- no number between 1 and p divides p: of a p above 1, that p is prime
abbrev pub Prime : ℕ → Type 0
Prime p = (a : ℕ) → 1 < a → a < p → p % a ≢ 0

-- The inverse of a modulo p, from that of p % a, which is less: since p = (p / a) a + p % a, it is - (p / a) times that one.
-- 0 and 1 are their own; steps is at least a.
unfoldable pub inverse_by : ℕ → ℕ → ℕ → ℕ
inverse_by p zero a = a
inverse_by p (suc steps) a = cond (nat_lt 1 a) ((p - p / a) * inverse_by p steps (p % a) % p) a

abbrev pub modular_inverse : ℕ → ℕ → ℕ
modular_inverse p a = inverse_by p a a
