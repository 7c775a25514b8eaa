-- What a write asks of the sizes, so that its puts lie where the rules have them.
use Rattle.std.specs.Prelude.{◌≤◌}
use Rattle.rules.specs.declared.Sizes.{Sizes}

-- Sizes no larger than the limits of the rules: a write has tables of four coefficients and of eight powers, and a program's numbers have room for the sums.
pub record Few (sizes : Sizes) : Type 0 where
  pub data_rows : sizes.data_rows ≤ 64
  pub parity_rows : sizes.parity_rows ≤ 4
  pub block : sizes.block_length ≤ 4096
  pub card : sizes.card_length ≤ 8
