use Rattle.std.proofs.Common.{◌≡◌, ℕ, ◌+◌, ◌<◌, Bool, true, false, rules, tests}
use Rattle.std.proofs.lemmas.Iterator.{first_from_Range}
use Rattle.rules.proofs.Loops.{lowest_found}
use Rattle.rules.specs.Codes.{component, differ}
use Rattle.rules.specs.Views.{element_at}
use Rattle.rows.proofs.Group.lowest_wrong_component.Goals as goal

pub returns : goal.returns
returns g c room =
    let F = g.S.Symbol.Field.algebra in
    let group = c.args.self.now in
    let x = element_at F g.S.Symbol.Field.meaning (g.S.Shelf.contents group.shelf.now) c.args.row in
    let wrong : ℕ → Bool = λ i. differ F (component F group.sizes.block_length x i) (x (group.sizes.block_length + i)) in
    lowest_found group.sizes.card_length wrong c.find.result
    (first_from_Range _ _ _ c.find.result (λ i. i < group.sizes.card_length → wrong i ≡ true) (λ i. i < group.sizes.card_length → wrong i ≡ false) c.find.ensures.ran
    (λ i q k. search (rules, tests)) (λ i q k. search (rules, tests)))
