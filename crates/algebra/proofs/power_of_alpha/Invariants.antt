use Rattle.std.proofs.Common.{◌≡◌}
use Rattle.algebra.specs.Algebra.{power}
use Rattle.algebra.proofs.power_of_alpha.Given as goal

abbrev pub invariant-loop : goal.invariant-loop
invariant-loop g l = g.F.Field.meaning l.power ≡ power g.F.Field.algebra g.F.Field.algebra.α l.counter
