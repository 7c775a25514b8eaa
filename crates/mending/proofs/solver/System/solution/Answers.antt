use Rattle.std.proofs.Common.{sym, ap, ◌∙◌, arith, rules}
use Rattle.algebra.specs.Algebra.{minus}
use Rattle.mending.specs.Stored.{stored}
use Rattle.mending.proofs.Numbers.{element_numbered}
use Rattle.mending.proofs.Solving.{solve_from}
use Rattle.mending.proofs.solver.System.solution.Goals as goal

pub returns : goal.returns
returns g c j h =
    let F = g.F.Field.algebra in
    let system = c.args.self.now in
    let at = c.numbers_of.ensures.numbers j h (omega (arith, system.small)) in
    let x = at.1 in
    element_numbered F _ _ (sym at.2) ∙ search rules
    ∙ ap (λ y. F.mul (F.inv (minus F F.zer (stored F system.columns j))) y)
    (c.solve-unknowns.ensures.here j (omega arith) h ∙ solve_from F system.size (stored F system.rows) (stored F system.columns) (stored F c.args.right) j)
