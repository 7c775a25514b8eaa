-- The product and the inverse of bytes. A byte is a polynomial over bits of a degree below 8.
use Rattle.std.specs.Prelude.{ℕ, zero, suc, ◌*◌, ◌%◌, cond, bit_xor, nat_lt}
use Rattle.algebra.specs.Polynomial.{polynomial_product}

-- the product of polynomials modulo x^8 + x^4 + x^3 + x^2 + 1
infixl 70 ◌·◌
unfoldable pub ◌·◌ : ℕ → ℕ → ℕ
a · b = polynomial_product 8 0x11D a b

-- x times a byte: the bits move up, and x ^ 8 is x^4 + x^3 + x^2 + 1
abbrev pub by_x : ℕ → ℕ
by_x a = cond (nat_lt a 128) (a * 2) (bit_xor (a % 128 * 2) 0x1D)

-- a ^ 2 times a ^ 4 times .., k squares
unfoldable pub squares : ℕ → ℕ → ℕ
squares zero a = 1
squares (suc k) a = let s = a · a in s · squares k s

-- a ^ 254: what is not zero has the power 255 one
unfoldable pub inverse : ℕ → ℕ
inverse a = squares 7 a
