-- One step of the product, bit by bit from the highest.
use Rattle.std.proofs.Common.{◌≡◌, ℕ, suc, ◌+◌, ◌-◌, ◌*◌, ◌/◌, ◌%◌, ◌^◌, ◌<◌, ◌≤◌, sym, ap, ◌∙◌, div-lt_iff_lt-mul, div-add-mod', arith, lit<, pow_pos, pow-add, lt-ltb}
use native.Mathlib.Nat.{div-div-eq-div-mul, div-eq_of_lt}
use lib.Bits.{bit_xor, xor_shifted, xor_self, xor_zero_r}
use Rattle.algebra.specs.Polynomial.{polynomial_product, product_of_bits, remainder}
use Rattle.algebra.proofs.Computed.{same}
use Rattle.byte_field.specs.Product.{◌·◌, by_x, squares, inverse}
use Rattle.byte_field.specs.Laws.{·_assoc, ·_comm, ·_xor, ·_one, ·_small, squares_small}

by_x_is : (a : ℕ) → a < 256 → by_x a ≡ a · 2
unfolding ◌·◌ polynomial_product product_of_bits remainder
by_x_is = same 256 by_x (λ a. a · 2) tt

times_zero : (a : ℕ) → a · 0 ≡ 0
times_zero a = ·_xor a 0 0 ∙ xor_self (a · 0)

-- the highest bits of b, one bit more
more_bits : (b i : ℕ) → b / 2 ^ i ≡ b / 2 ^ (i + 1) * 2 + b / 2 ^ i % 2
more_bits b i =
    let e : b / 2 ^ i / 2 ≡ b / 2 ^ (i + 1) = div-div-eq-div-mul b (2 ^ i) 2 ∙ ap (λ n. b / n) (sym (pow-add 2 i 1)) in
    omega (arith, e, div-add-mod' (b / 2 ^ i) 2)

rest_small : (b i : ℕ) → b < 256 → b / 2 ^ (i + 1) < 128
rest_small b i h = (div-lt_iff_lt-mul (pow_pos (i + 1))).1 (omega (arith, pow-add 2 i 1, pow_pos i))

-- s is a times the highest bits of b, those from j on
module _ (a b j s : ℕ) (ha : a < 256) (hb : b < 256) (hj : 0 < j) (is : s ≡ a · (b / 2 ^ j)) where
  abbrev i : ℕ
  i = j - 1

  next : j ≡ i + 1
  next = omega arith

  moved : (t : ℕ) → t < 2 → b / 2 ^ i % 2 ≡ t → a · (b / 2 ^ i) ≡ bit_xor (by_x s) (a · t)
  moved t h e =
      let q : ℕ = b / 2 ^ (i + 1) in
      let small : q < 128 = rest_small b i hb in
      let twice : q * 2 ≡ q · 2 = rw (lt-ltb q 128 small) at (by_x_is q (omega arith)) in
      let here : s ≡ a · q = is ∙ ap (λ v. a · (b / 2 ^ v)) next in
      let split : b / 2 ^ i ≡ bit_xor (q * 2) t = more_bits b i ∙ ap (λ v. q * 2 + v) e ∙ sym (xor_shifted q 1 t h) in
      ap (λ v. a · v) split
      ∙ ·_xor a (q * 2) t
      ∙ ap (λ v. bit_xor v (a · t))
      (ap (λ v. a · v) twice
      ∙ sym (·_assoc a q 2 ha (omega arith) (lit< tt))
      ∙ ap (λ v. v · 2) (sym here)
      ∙ sym (by_x_is s (rw (sym here) at (·_small a q ha (omega arith)))))

  pub with_bit : b / 2 ^ i % 2 ≡ 1 → bit_xor (by_x s) a ≡ a · (b / 2 ^ i)
  with_bit e = sym (moved 1 (lit< tt) e ∙ ap (bit_xor (by_x s)) (·_one a ha))

  pub without_bit : (b / 2 ^ i % 2 ≡ 1 → ⊥) → by_x s ≡ a · (b / 2 ^ i)
  without_bit ne = sym (moved 0 (lit< tt) (omega arith) ∙ ap (bit_xor (by_x s)) (times_zero a) ∙ xor_zero_r (by_x s))

-- one square more of an inverse, of which i are taken
pub one_square : (a p s i : ℕ) → i < 7 → p < 256 → s < 256 → p · squares (7 - i) s ≡ inverse a → p · (s · s) · squares (7 - (i + 1)) (s · s) ≡ inverse a
unfolding squares
one_square a p s i h hp hs e =
    let k : ℕ = 7 - (i + 1) in
    let more : suc k ≡ 7 - i = omega arith in
    ·_assoc p (s · s) (squares k (s · s)) hp (·_small s s hs hs) (squares_small k (s · s) (·_small s s hs hs)) ∙ ap (λ n. p · squares n s) more ∙ e

pub no_squares : (a : ℕ) → a < 256 → 1 · squares 7 a ≡ inverse a
unfolding inverse
no_squares a h = ·_comm 1 (squares 7 a) (lit< tt) (squares_small 7 a h) ∙ ·_one (squares 7 a) (squares_small 7 a h)

pub all_squares : (a p s i : ℕ) → 7 ≤ i → p < 256 → p · squares (7 - i) s ≡ inverse a → p ≡ inverse a
unfolding squares
all_squares a p s i h hp e =
    let none : 0 ≡ 7 - i = omega arith in
    sym (·_one p hp) ∙ ap (λ n. p · squares n s) none ∙ e

pub none_yet : (a b : ℕ) → b < 256 → 0 ≡ a · (b / 256)
none_yet a b h = let e : b / 256 ≡ 0 = div-eq_of_lt h in rw e (sym (times_zero a))
