-- Products of polynomials over bits, modulo a polynomial of any degree. The product is linear in each factor, so what holds of the
-- powers of x holds of all: a new width costs a computed test at those, and no argument.
use Rattle.std.proofs.Common.{◌≡◌, ℕ, zero, suc, ◌+◌, ◌-◌, ◌*◌, ◌/◌, ◌^◌, ◌<◌, ◌≤◌, sym, refl, ap, ◌∙◌, ap₂, add-zero, one-mul, zero-mul, arith, pow_pos}
use native.Mathlib.Decide.{dec_lt}
use lib.Bits.{bit_xor, xor_assoc, xor_comm, xor_self, xor_zero_r, xor_lt, xor_mod, xor_shr, xor_block, xor_shifted}
use Rattle.algebra.specs.Polynomial.{bit, product_of_bits, remainder, polynomial_product}

pub exchanged : (a b c d : ℕ) → bit_xor (bit_xor a b) (bit_xor c d) ≡ bit_xor (bit_xor a c) (bit_xor b d)
exchanged a b c d =
    xor_assoc a b (bit_xor c d) ∙ ap (bit_xor a) (sym (xor_assoc b c d) ∙ rw (xor_comm b c) (xor_assoc c b d)) ∙ sym (xor_assoc a c (bit_xor b d))

xor_scaled : (k a b : ℕ) → bit_xor a b * 2 ^ k ≡ bit_xor (a * 2 ^ k) (b * 2 ^ k)
xor_scaled k a b = sym (simp add-zero at (xor_block k a b 0 0 (pow_pos k) (pow_pos k)))

xor_bit : (s t v : ℕ) → s < 2 → t < 2 → bit_xor s t * v ≡ bit_xor (s * v) (t * v)
xor_bit zero t v h k = simp zero-mul
xor_bit (suc zero) zero v h k = simp (zero-mul, xor_zero_r)
xor_bit (suc zero) (suc zero) v h k = simp (zero-mul, xor_self)
xor_bit (suc zero) (suc (suc t)) v h k = absurd (omega arith)
xor_bit (suc (suc s)) t v h k = absurd (omega arith)

mul_xor : (s a b : ℕ) → s < 2 → s * bit_xor a b ≡ bit_xor (s * a) (s * b)
mul_xor zero a b h = simp zero-mul
mul_xor (suc zero) a b h = simp one-mul
mul_xor (suc (suc s)) a b h = absurd (omega arith)

bit_below : (i a : ℕ) → bit i a < 2
bit_below i a = omega arith

bit_of_xor : (i a b : ℕ) → bit i (bit_xor a b) ≡ bit_xor (bit i a) (bit i b)
bit_of_xor i a b = rw (xor_shr a b i) (xor_mod (a / 2 ^ i) (b / 2 ^ i) 1)

product_left : (k a b c : ℕ) → product_of_bits k (bit_xor a b) c ≡ bit_xor (product_of_bits k a c) (product_of_bits k b c)
unfolding product_of_bits
product_left zero a b c = refl
product_left (suc k) a b c =
    rw (product_left k a b c, xor_scaled k a b, mul_xor (bit k c) (a * 2 ^ k) (b * 2 ^ k) (bit_below k c))
    (exchanged (product_of_bits k a c) (product_of_bits k b c) (bit k c * (a * 2 ^ k)) (bit k c * (b * 2 ^ k)))

product_right : (k a b c : ℕ) → product_of_bits k a (bit_xor b c) ≡ bit_xor (product_of_bits k a b) (product_of_bits k a c)
unfolding product_of_bits
product_right zero a b c = refl
product_right (suc k) a b c =
    rw (product_right k a b c, bit_of_xor k b c, xor_bit (bit k b) (bit k c) (a * 2 ^ k) (bit_below k b) (bit_below k c))
    (exchanged (product_of_bits k a b) (product_of_bits k a c) (bit k b * (a * 2 ^ k)) (bit k c * (a * 2 ^ k)))

remainder_xor : (d modulus k a b : ℕ) → remainder d modulus k (bit_xor a b) ≡ bit_xor (remainder d modulus k a) (remainder d modulus k b)
unfolding remainder
remainder_xor d modulus zero a b = refl
remainder_xor d modulus (suc k) a b =
    let m : ℕ = modulus * 2 ^ k in
    let s : ℕ = bit (d + k) a in
    let t : ℕ = bit (d + k) b in
    let e : bit_xor (bit_xor a b) (bit (d + k) (bit_xor a b) * m) ≡ bit_xor (bit_xor a (s * m)) (bit_xor b (t * m)) =
    rw (bit_of_xor (d + k) a b, xor_bit s t m (bit_below (d + k) a) (bit_below (d + k) b)) (exchanged a b (s * m) (t * m)) in
    rw e (remainder_xor d modulus k (bit_xor a (s * m)) (bit_xor b (t * m)))

-- a function that takes sums to sums
abbrev pub Linear : (ℕ → ℕ) → Type 0
Linear f = (a b : ℕ) → f (bit_xor a b) ≡ bit_xor (f a) (f b)

linear_zero : (f : ℕ → ℕ) → Linear f → f 0 ≡ 0
linear_zero f lin = lin 0 0 ∙ xor_self (f 0)

top_bit : (k a : ℕ) → 2 ^ k ≤ a → a < 2 ^ suc k → bit_xor (2 ^ k) (a - 2 ^ k) ≡ a
top_bit k a h l = rw one-mul at (xor_shifted 1 k (a - 2 ^ k) (omega arith)) ∙ omega arith

-- Two linear functions that agree at the powers of x below x ^ k agree at all polynomials of a degree below k.
pub linear_same : (f g : ℕ → ℕ) → Linear f → Linear g → (k : ℕ) → ((j : ℕ) → j < k → f (2 ^ j) ≡ g (2 ^ j)) → (a : ℕ) → a < 2 ^ k → f a ≡ g a
linear_same f g lf lg zero basis a h = let e : a ≡ 0 = omega arith in rw e (linear_zero f lf ∙ sym (linear_zero g lg))
linear_same f g lf lg (suc k) basis a h =
    elim (dec_lt a (2 ^ k)) [
      | yes low ↦ linear_same f g lf lg k (λ j l. basis j (omega arith)) a low
      | no high ↦
          let rest = linear_same f g lf lg k (λ j l. basis j (omega arith)) (a - 2 ^ k) (omega arith) in
          rw (top_bit k a (omega arith) h) at (lf (2 ^ k) (a - 2 ^ k) ∙ ap₂ bit_xor (basis k (omega arith)) rest ∙ sym (lg (2 ^ k) (a - 2 ^ k)))
    ]

-- A linear function that is below 2 ^ w at those powers is so at all of them.
pub linear_small : (f : ℕ → ℕ) → Linear f → (w k : ℕ) → ((j : ℕ) → j < k → f (2 ^ j) < 2 ^ w) → (a : ℕ) → a < 2 ^ k → f a < 2 ^ w
linear_small f lin w zero basis a h = let e : a ≡ 0 = omega arith in rw (e, linear_zero f lin) (pow_pos w)
linear_small f lin w (suc k) basis a h =
    elim (dec_lt a (2 ^ k)) [
      | yes low ↦ linear_small f lin w k (λ j l. basis j (omega arith)) a low
      | no high ↦
          let rest = linear_small f lin w k (λ j l. basis j (omega arith)) (a - 2 ^ k) (omega arith) in
          rw (← lin (2 ^ k) (a - 2 ^ k), top_bit k a (omega arith) h) at (xor_lt w (f (2 ^ k)) (f (a - 2 ^ k)) (basis k (omega arith)) rest)
    ]

-- the product modulo a polynomial of degree d
module _ (d modulus : ℕ) where
  infixl 70 ◌·◌
  abbrev ◌·◌ : ℕ → ℕ → ℕ
  a · b = polynomial_product d modulus a b

  pub left_linear : (c : ℕ) → Linear (λ a. a · c)
  unfolding polynomial_product
  left_linear c a b = rw (product_left d a b c) (remainder_xor d modulus d _ _)

  pub right_linear : (a : ℕ) → Linear (λ b. a · b)
  unfolding polynomial_product
  right_linear a b c = rw (product_right d a b c) (remainder_xor d modulus d _ _)

  -- what the powers of x show of all
  pub commutes : ((i j : ℕ) → i < d → j < d → 2 ^ i · 2 ^ j ≡ 2 ^ j · 2 ^ i) → (a b : ℕ) → a < 2 ^ d → b < 2 ^ d → a · b ≡ b · a
  commutes basis a b h k =
      linear_same (λ x. x · b) (λ x. b · x) (left_linear b) (right_linear b) d (λ i l.
      linear_same (λ x. 2 ^ i · x) (λ x. x · 2 ^ i) (right_linear (2 ^ i)) (left_linear (2 ^ i)) d (λ j. basis i j l) b k) a h

  pub associates : ((i j k : ℕ) → i < d → j < d → k < d → 2 ^ i · 2 ^ j · 2 ^ k ≡ 2 ^ i · (2 ^ j · 2 ^ k))
      → (a b c : ℕ) → a < 2 ^ d → b < 2 ^ d → c < 2 ^ d → a · b · c ≡ a · (b · c)
  associates basis a b c h k l =
      linear_same (λ x. x · b · c) (λ x. x · (b · c)) (λ x y. rw (left_linear b x y) (left_linear c (x · b) (y · b))) (left_linear (b · c)) d (λ i m.
      linear_same (λ x. 2 ^ i · x · c) (λ x. 2 ^ i · (x · c)) (λ x y. rw (right_linear (2 ^ i) x y) (left_linear c (2 ^ i · x) (2 ^ i · y))) (λ x y. rw (left_linear c x y) (right_linear (2 ^ i) (x · c) (y · c))) d (λ j n.
      linear_same (λ x. 2 ^ i · 2 ^ j · x) (λ x. 2 ^ i · (2 ^ j · x)) (right_linear (2 ^ i · 2 ^ j)) (λ x y. rw (right_linear (2 ^ j) x y) (right_linear (2 ^ i) (2 ^ j · x) (2 ^ j · y))) d (λ o. basis i j o m n) c l) b k) a h

  pub stays_small : ((i j : ℕ) → i < d → j < d → 2 ^ i · 2 ^ j < 2 ^ d) → (a b : ℕ) → a < 2 ^ d → b < 2 ^ d → a · b < 2 ^ d
  stays_small basis a b h k =
      linear_small (λ x. x · b) (left_linear b) d d (λ i l.
      linear_small (λ x. 2 ^ i · x) (right_linear (2 ^ i)) d d (λ j. basis i j l) b k) a h

  pub one_neutral : ((i : ℕ) → i < d → 2 ^ i · 1 ≡ 2 ^ i) → (a : ℕ) → a < 2 ^ d → a · 1 ≡ a
  one_neutral basis a h = linear_same (λ x. x · 1) (λ x. x) (left_linear 1) (λ x y. refl) d basis a h
