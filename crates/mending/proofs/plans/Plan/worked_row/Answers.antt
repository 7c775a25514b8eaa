use Rattle.std.proofs.Common.{◌≡◌, ◌-◌, sym, ap, ◌∙◌, arith, lt-ltb, rules}
use Rattle.rules.specs.Search.{counted}
use Rattle.rules.proofs.Counted.{counted_not}
use Rattle.mending.specs.Plans.{flag, lost, weight_in}
use Rattle.mending.proofs.Gathering.{counted_first}
use Rattle.mending.proofs.Numbers.{element_numbered}
use Rattle.mending.proofs.plans.Plan.worked_row.Goals as goal

pub overflow_sub-rank : goal.overflow_sub-rank
overflow_sub-rank g c =
    let sound = flag c.args.damage.now in
    omega (arith, c.sound_among.ensures, counted_first sound c.args.row (omega arith), counted_not c.args.row sound)

pub returns-then-row-sizes-clause-weights : goal.returns-then-row-sizes-clause-weights
returns-then-row-sizes-clause-weights g c fit below h source l =
    let F = g.F.Field.algebra in
    let plan = c.args.self.now in
    let sound = flag c.args.damage.now in
    let rank : c.args.row - c.sound_among.result ≡ counted c.args.row (lost F c.args.sizes.data_rows sound) =
    omega (arith, c.sound_among.ensures, counted_first sound c.args.row (omega arith), counted_not c.args.row sound) in
    let at = c.numbers_of-weights.ensures.numbers source (omega (arith, c.rows-rows.ensures, fit.few, fit.four)) (omega (arith, fit.few, fit.four)) in
    let x = at.1 in
    rw (lt-ltb c.args.row c.args.sizes.data_rows c.if-row-sizes.true) (element_numbered F _ _ (sym at.2) ∙ search rules ∙ ap (weight_in F plan.weights source) rank)

pub returns-else-row-sizes-clause-weights : goal.returns-else-row-sizes-clause-weights
returns-else-row-sizes-clause-weights g c fit below h source l =
    let F = g.F.Field.algebra in
    let at = c.numbers_of-weights-else-row-sizes.ensures.numbers source (omega (arith, c.rows-rows.ensures, fit.few, fit.four)) (omega (arith, fit.few, fit.four)) in
    let x = at.1 in
    element_numbered F _ _ (sym at.2) ∙ search rules
