use Rattle.std.proofs.Common.{◌≡◌, ◌/◌, ◌^◌, length, drop}
use Rattle.algebra.specs.Code.{code}
use Rattle.algebra.proofs.write_code.Given as goal

abbrev pub invariant-loop-i : goal.invariant-loop-i
invariant-loop-i l = (l.rest ≡ l.number / 256 ^ length (drop l.i l.into)) × (drop l.i l.into ≡ code (length (drop l.i l.into)) l.number)
