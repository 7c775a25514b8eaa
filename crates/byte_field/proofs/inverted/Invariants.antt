use Rattle.std.proofs.Common.{◌≡◌, ◌-◌, ◌<◌}
use Rattle.byte_field.specs.Product.{◌·◌, squares, inverse}
use Rattle.byte_field.proofs.inverted.Given as goal

abbrev pub invariant-loop : goal.invariant-loop
invariant-loop l = record {
  all : l.power · squares (7 - l.counter) l.square ≡ inverse l.a;
  power_small : l.power < 256;
  square_small : l.square < 256;
}
