use Rattle.std.proofs.Common.{rules, ap, ◌∙◌, arith}
use Rattle.rules.specs.Codes.{base}
use Rattle.writes.proofs.Numbers.{numbered_product, next_power}
use Rattle.writes.proofs.Place.advance.Goals as goal

pub invariant_of-self-clause-weighed : goal.invariant_of-self-clause-weighed
invariant_of-self-clause-weighed g c small i l =
    let F = g.F.Field.algebra in
    let made = c.numbers_of-powers.ensures.numbers i l (omega arith) in
    let x = made.1 in
    let v = c.args.self.now.based small i l in
    let w = c.args.self.now.weighed small i l in
    made.2 ∙ ap F.number (next_power F (base F i) c.args.self.now.index (search rules) (search (rules, numbered_product)))
