use Rattle.std.proofs.Common.{arith, pow-add}
use Rattle.std.proofs.Math.Nat.{pow-le-pow_right}
use Rattle.algebra.proofs.Codes.{coded_more}
use Rattle.algebra.proofs.read_code.Goals as goal

pub overflow_mul-number : goal.overflow_mul-number
overflow_mul-number c = grind (arith, pow-le-pow_right {n = 256})

pub loop-byte-preserved : goal.loop-byte-preserved
loop-byte-preserved c = grind (arith, coded_more, pow-add)
