-- Polynomials over bits, and their products modulo a polynomial. Bit i of a number is the coefficient of x ^ i.
use Rattle.std.specs.Prelude.{ℕ, zero, suc, ◌+◌, ◌*◌, ◌/◌, ◌%◌, ◌^◌, bit_xor}

-- the coefficient of x ^ i
abbrev pub bit : ℕ → ℕ → ℕ
bit i a = a / 2 ^ i % 2

-- a times the polynomial of b's lowest k coefficients: the sum over i below k of bit i of b times x ^ i times a
unfoldable pub product_of_bits : ℕ → ℕ → ℕ → ℕ
product_of_bits zero a b = 0
product_of_bits (suc k) a b = bit_xor (product_of_bits k a b) (bit k b * (a * 2 ^ k))

-- The remainder of a by a modulus of degree d, where a has a degree below d + k: from x ^ (d + k - 1) down to x ^ d, where
-- a has that power, a multiple of the modulus that has it too is taken away.
unfoldable pub remainder : ℕ → ℕ → ℕ → ℕ → ℕ
remainder d modulus zero a = a
remainder d modulus (suc k) a = remainder d modulus k (bit_xor a (bit (d + k) a * (modulus * 2 ^ k)))

-- the product of two polynomials of a degree below d, modulo a polynomial of degree d
unfoldable pub polynomial_product : ℕ → ℕ → ℕ → ℕ → ℕ
polynomial_product d modulus a b = remainder d modulus d (product_of_bits d a b)
