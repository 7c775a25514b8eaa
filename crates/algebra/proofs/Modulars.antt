-- The laws of numbers modulo a prime.
use Rattle.std.proofs.Common.{◌≡◌, ℕ, zero, suc, ◌+◌, ◌-◌, ◌*◌, ◌/◌, ◌%◌, ◌<◌, ◌≤◌, not, eqb, ltb, ◌≢◌, sym, refl, ap, ◌∙◌, add_assoc, mod-lt, mod-eq_of_lt, mul_assoc, one-mul, div-add-mod', mul-one, mul-zero, mul-add, div-le_self, arith, T_not, ltb-false, ltb-true}
use native.Mathlib.Nat.{suc-ne-zero, zero-mod, mod_self, mod-add-mod, add-mod-mod, mul-add-mod_self_right}
use lib.Dec.{eqb_refl}
use Rattle.std.proofs.lemmas.Nat.{mul-mod_first, mul-mod_second}
use Rattle.algebra.specs.Modular.{Prime, inverse_by}
use Rattle.algebra.proofs.Cases.{by_cases}
use Rattle.algebra.proofs.Computed.{below}

multiple : (p a s q r u b : ℕ) → u + q ≡ p → q * a + r ≡ p → b + 1 ≡ a → b * s * p + r * s ≡ a * (u * s)
multiple p a s q r u b e f g = omega (arith, ap (λ x. a * x * s) e, ap (λ x. x * s) f, ap (λ x. x * s * p) g)

inverse_step : (p a s : ℕ) → 1 < a → p % a * s % p ≡ 1 → a * ((p - p / a) * s % p) % p ≡ 1
inverse_step p a s h e =
    mul-mod_second a ((p - p / a) * s) p
    ∙ ap (λ x. x % p) (sym (multiple p a s (p / a) (p % a) (p - p / a) (a - 1) (omega (arith, div-le_self p a)) (div-add-mod' p a) (omega arith)))
    ∙ mul-add-mod_self_right ((a - 1) * s) p (p % a * s) ∙ e

pub inverse_right : (p : ℕ) → Prime p → (steps a : ℕ) → a ≤ steps → a < p → a ≢ 0 → a * inverse_by p steps a % p ≡ 1
unfolding inverse_by
inverse_right p prime zero a l h ne = absurd (omega arith)
inverse_right p prime (suc steps) a l h ne =
    by_cases (ltb 1 a)
    (λ t.
    let more : 1 < a = ltb-true 1 a t in
    rw t (inverse_step p a _ more (inverse_right p prime steps (p % a) (omega arith) (omega arith) (prime a more h))))
    (λ t.
    let e : a ≡ 1 = omega (arith, ltb-false 1 a t) in
    rw t (rw e (mod-eq_of_lt (omega arith))))

pub inverse_small : (p steps a : ℕ) → a < p → inverse_by p steps a < p
unfolding inverse_by
inverse_small p zero a h = h
inverse_small p (suc steps) a h = by_cases (ltb 1 a) (λ t. rw t (mod-lt _ (omega arith))) (λ t. rw t h)

pub inverse_zero : (p : ℕ) → inverse_by p 0 0 ≡ 0
unfolding inverse_by
inverse_zero p = refl

-- what is an inverse is the inverse
pub inverse_unique : (p : ℕ) → Prime p → (a r : ℕ) → a < p → a ≢ 0 → r < p → r * a % p ≡ 1 → r ≡ inverse_by p a a
inverse_unique p prime a r h ne k e =
    let i : ℕ = inverse_by p a a in
    let one : a * i % p ≡ 1 = inverse_right p prime a a (omega arith) h ne in
    let right : r * (a * i) % p ≡ r = sym (mul-mod_second r (a * i) p) ∙ rw (one, mul-one r) (mod-eq_of_lt k) in
    let left : r * a * i % p ≡ i = sym (mul-mod_first (r * a) i p) ∙ rw (e, one-mul i) (mod-eq_of_lt (inverse_small p a a h)) in
    sym right ∙ ap (λ v. v % p) (sym (mul_assoc r a i)) ∙ left

-- A division with remainder that has come down to a, 0 or 1: f times a is the inverse.
pub inverse_found : (p : ℕ) → Prime p → (f v a : ℕ) → v < p → f < p → a ≤ 1 → f * v % p ≡ a → (v ≢ 0 → a ≢ 0) → f * a % p ≡ inverse_by p v v
inverse_found p prime f zero a h k few e some =
    let none : a ≡ 0 = sym e ∙ simp (mul-zero, zero-mod) in
    rw (none, mul-zero f, zero-mod p) (sym (inverse_zero p))
inverse_found p prime f (suc v) a h k few e some =
    let one : a ≡ 1 = omega (arith, some (suc-ne-zero v)) in
    rw (one, mul-one f) (mod-eq_of_lt k ∙ inverse_unique p prime (suc v) f h (suc-ne-zero v) k (e ∙ one))

-- One division with remainder: f times v is a, and the same with the next factor and the remainder.
pub next_remainder : (p f v a : ℕ) → 0 < a → a < p → f * v % p ≡ a → f * (p - p / a) % p * v % p ≡ p % a
next_remainder p f v a h k e =
    let u : ℕ = p - p / a in
    let q : u + p / a ≡ p = omega (arith, div-le_self p a) in
    let d : u * a ≡ (a - 1) * p + p % a = turned p a (p / a) (p % a) u (a - 1) q (div-add-mod' p a) (omega arith) in
    mul-mod_first (f * u) v p
    ∙ ap (λ x. x % p) (regrouped f u v)
    ∙ sym (mul-mod_second u (f * v) p)
    ∙ ap (λ x. u * x % p) e
    ∙ ap (λ x. x % p) d
    ∙ mul-add-mod_self_right (a - 1) p (p % a)
    ∙ mod-eq_of_lt (omega arith)
  where
    turned : (p a q r u b : ℕ) → u + q ≡ p → q * a + r ≡ p → b + 1 ≡ a → u * a ≡ b * p + r
    turned p a q r u b e f g = omega (arith, ap (λ x. x * a) e, ap (λ x. x * p) g)

    regrouped : (f u v : ℕ) → f * u * v ≡ u * (f * v)
    regrouped f u v = omega arith

-- the laws, as a field asks for them
pub plus_assoc : (p a b c : ℕ) → ((a + b) % p + c) % p ≡ (a + (b + c) % p) % p
plus_assoc p a b c = simp (mod-add-mod, add-mod-mod, add_assoc)

pub plus_negative : (p a : ℕ) → a < p → (a + (p - a) % p) % p ≡ 0
plus_negative p a h = let e : a + (p - a) ≡ p = omega arith in rw (add-mod-mod, e) (mod_self p)

pub times_assoc : (p a b c : ℕ) → a * b % p * c % p ≡ a * (b * c % p) % p
times_assoc p a b c = simp (mul-mod_first, mul-mod_second, mul_assoc)

pub times_plus : (p a b c : ℕ) → a * ((b + c) % p) % p ≡ (a * b % p + a * c % p) % p
times_plus p a b c = simp (mul-mod_second, mod-add-mod, add-mod-mod, mul-add)

pub prime_65537 : Prime 65537
prime_65537 a h k e =
    let s : a - 2 + 2 ≡ a = omega arith in
    T_not _ (below 65535 (λ i. not (eqb (65537 % (i + 2)) 0)) tt (a - 2) (omega arith)) (rw (s, e) (eqb_refl 0))
