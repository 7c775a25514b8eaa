use Rattle.std.proofs.Common.{◌≡◌, ◌/◌, ◌^◌}
use Rattle.byte_field.specs.Product.{◌·◌}
use Rattle.byte_field.proofs.multiplied.Given as goal

abbrev pub invariant-loop-i : goal.invariant-loop-i
invariant-loop-i l = l.sum ≡ l.a · (l.b / 2 ^ l.i)
