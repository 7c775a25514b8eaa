use Rattle.std.proofs.Common.{rules, ap, ◌∙◌, arith}
use Rattle.rows.proofs.coefficient_row.Goals as goal

pub returns-clause-known : goal.returns-clause-known
returns-clause-known g c small few room j h =
    let at = c.numbers_of.ensures.numbers j h (omega arith) in
    let x = at.1 in
    at.2 ∙ ap g.F.Field.algebra.number (search rules)
