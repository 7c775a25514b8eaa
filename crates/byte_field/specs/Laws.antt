-- The laws that bytes owe as a field: computed where the powers of x show all, and where a walk over all bytes does. Nothing here has to be believed.
use Rattle.std.specs.Prelude.{◌≡◌, ℕ, zero, suc, ◌^◌, ◌<◌, min, T, bit_xor, nat_lt, refl}
use Rattle.std.proofs.Common.{lit<, ltb→lt}
use Rattle.algebra.specs.Polynomial.{polynomial_product, product_of_bits, remainder}
use Rattle.algebra.proofs.Computed.{all_below, below, same, same², same³, never_one}
use Rattle.algebra.proofs.Polynomials.{commutes, associates, stays_small, one_neutral, left_linear, right_linear}
use Rattle.byte_field.specs.Product.{◌·◌, squares, inverse}

pub ·_comm : (a b : ℕ) → a < 256 → b < 256 → a · b ≡ b · a
unfolding ◌·◌ polynomial_product product_of_bits remainder
·_comm = commutes 8 0x11D (same² 8 8 (λ i j. 2 ^ i · 2 ^ j) (λ i j. 2 ^ j · 2 ^ i) tt)

pub ·_assoc : (a b c : ℕ) → a < 256 → b < 256 → c < 256 → a · b · c ≡ a · (b · c)
unfolding ◌·◌ polynomial_product product_of_bits remainder
·_assoc = associates 8 0x11D (same³ 8 8 8 (λ i j k. 2 ^ i · 2 ^ j · 2 ^ k) (λ i j k. 2 ^ i · (2 ^ j · 2 ^ k)) tt)

pub ·_one : (a : ℕ) → a < 256 → a · 1 ≡ a
unfolding ◌·◌ polynomial_product product_of_bits remainder
·_one = one_neutral 8 0x11D (same 8 (λ i. 2 ^ i · 1) (λ i. 2 ^ i) tt)

pub ·_small : (a b : ℕ) → a < 256 → b < 256 → a · b < 256
unfolding ◌·◌ polynomial_product product_of_bits remainder
·_small = stays_small 8 0x11D (λ i j h k. ltb→lt _ _ (below 8 (λ l. nat_lt (2 ^ i · 2 ^ l) 256) (below 8 (λ l. all_below 8 (λ o. nat_lt (2 ^ l · 2 ^ o) 256)) tt i h) j k))

pub ·_xor : (a b c : ℕ) → a · bit_xor b c ≡ bit_xor (a · b) (a · c)
unfolding ◌·◌
·_xor = right_linear 8 0x11D

pub xor_· : (a b c : ℕ) → bit_xor a b · c ≡ bit_xor (a · c) (b · c)
unfolding ◌·◌
xor_· a b c = left_linear 8 0x11D c a b

pub ·_inverse : (a : ℕ) → a < 256 → a · inverse a ≡ min a 1
unfolding ◌·◌ polynomial_product product_of_bits remainder inverse squares
·_inverse = same 256 (λ a. a · inverse a) (λ a. min a 1) tt

pub squares_small : (k a : ℕ) → a < 256 → squares k a < 256
unfolding squares
squares_small zero a h = lit< tt
squares_small (suc k) a h = ·_small (a · a) _ (·_small a a h h) (squares_small k (a · a) (·_small a a h h))

pub inverse_small : (a : ℕ) → a < 256 → inverse a < 256
unfolding inverse
inverse_small = squares_small 7

pub inverse_zero : inverse 0 ≡ 0
unfolding inverse squares ◌·◌ polynomial_product product_of_bits remainder
inverse_zero = refl

-- the powers of 2 from the first to the 254th are not one
pub powers_walk : T (never_one (◌·◌ 2) 254 (2 · 1))
unfolding ◌·◌ polynomial_product product_of_bits remainder
powers_walk = tt
