use Rattle.std.proofs.Common.{rules, ap, ◌∙◌, arith}
use Rattle.writes.proofs.coefficient_column.Goals as goal

pub returns : goal.returns
returns g c small few room i l =
    let made = c.numbers_of.ensures.numbers i l (omega arith) in
    let x = made.1 in
    made.2 ∙ ap g.F.Field.algebra.number (search rules)
