use Rattle.std.proofs.Common.{rules, ap, ◌∙◌, arith}
use Rattle.writes.proofs.Place.at.Goals as goal

pub invariant_of-place-clause-based : goal.invariant_of-place-clause-based
invariant_of-place-clause-based g c small i l =
    let made = c.numbers_of.ensures.numbers i l (omega arith) in
    let x = made.1 in
    made.2 ∙ ap g.F.Field.algebra.number (search rules)
