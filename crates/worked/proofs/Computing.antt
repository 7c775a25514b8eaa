-- What the fields' operations compute with.
use Rattle.std.proofs.Common.{ℕ, zero}
use Rattle.algebra.specs.Modular.{inverse_by}
use Rattle.algebra.specs.Polynomial.{polynomial_product, product_of_bits, remainder}
use Rattle.byte_field.specs.Product.{◌·◌, squares, inverse}

-- A proof that unfolds this one computes products and inverses of both fields.
unfoldable pub computing : ℕ
unfolding ◌·◌ squares inverse polynomial_product product_of_bits remainder inverse_by
computing = zero
