use Rattle.std.proofs.Common.{◌≡◌, ◌<◌, ◌∙◌, sym, arith, rules}
use Rattle.rows.proofs.Making.{made}
use Rattle.mending.proofs.Numbers.{element_numbered}
use Rattle.mending.proofs.solver.System.after.Goals as goal

pub returns-clause-here : goal.returns-clause-here
returns-clause-here g c i l h =
    let F = g.F.Field.algebra in
    let meaning = g.F.Field.meaning in
    let at =
    made _ _ (λ k y. c.args.first < k → k < c.args.self.now.size → (x : _) × goal.W-post g c.args.work k x × (F.number (meaning x) ≡ y)) (λ k y q e. (search rules, search rules))
    c.from_fn.result 4 0 c.from_fn.ensures.items.each i (omega arith) (omega (arith, c.args.self.now.small)) in
    let w = at.2 l h in
    (w.0, w.1, element_numbered F _ _ (w.2 ∙ sym (at.1.1 0)))
