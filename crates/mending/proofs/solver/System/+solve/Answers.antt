use Rattle.std.proofs.Common.{◌+◌, ◌-◌, ◌≤◌, sym, ap, ◌∙◌, ap₂, arith, get_or, set, get_or-set_same, get_or-set_other}
use Rattle.algebra.specs.Algebra.{minus}
use Rattle.algebra.specs.Cauchy.{row}
use Rattle.mending.specs.Stored.{from, stored}
use Rattle.rows.specs.Weights.{element_of}
use Rattle.mending.proofs.Numbers.{element_numbered}
use Rattle.mending.proofs.Solving.{step_solved}
use Rattle.mending.proofs.solver.System.+solve.Goals as goal

pub returns-clause-here : goal.returns-clause-here
returns-clause-here g t c =
    let F = g.F.Field.algebra in
    let system = c.args.self.now in
    let first = c.args.first in
    let next : first + 1 ≤ system.size = omega arith in
    let unknowns = c.grown-unknowns.result in
    step_solved F (stored F system.rows) (stored F system.columns) (stored F c.args.right) (stored F c.reduced.result) (stored F c.solve-rest.result) (stored F unknowns) first system.size
    c.reduced.ensures.here c.solve-rest.ensures.here c.grown-unknowns.ensures.here (λ j. element_of F (get_or (set unknowns first c.number.result) j 0))
    (element_numbered F _ _ (sym c.number.ensures ∙ sym (get_or-set_same unknowns first c.number.result 0 (omega (arith, system.small)))) ∙ c.product-value.ensures
    ∙ ap₂ F.mul (c.difference.ensures ∙ ap₂ (minus F) c.row-row.ensures c.column-column.ensures)
    (c.difference-2.ensures ∙ ap₂ (minus F) c.stored-left.ensures (c.row_sum-sum.ensures next
    ∙ ap (λ x. row F (system.size - (first + 1)) (from (first + 1) (stored F system.columns)) (from (first + 1) (stored F unknowns)) x) c.row-row.ensures)))
    (λ j h. ap (element_of F) (get_or-set_other unknowns first j c.number.result 0 (omega arith)))
