use Rattle.std.proofs.Common.{◌-◌}
use Rattle.mending.proofs.solver.System.+solve.Given as goal

abbrev pub decreases-solve : goal.decreases-solve
decreases-solve g l = l.self.now.size - l.first
