use Rattle.std.proofs.Common.{◌≡◌, length}
use Rattle.algebra.specs.Cauchy.{row}
use Rattle.mending.specs.Stored.{from, stored}
use Rattle.mending.proofs.solver.System.row_sum.Given as goal

abbrev pub invariant-loop-column : goal.invariant-loop-column
invariant-loop-column g l =
    let F = g.F.Field.algebra in
    g.F.Field.meaning l.sum ≡ row F (length l.yielded) (from l.start (stored F l.self.columns)) (from l.start (stored F l.unknowns)) (g.F.Field.meaning l.point)
