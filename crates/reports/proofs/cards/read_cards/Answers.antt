use Rattle.std.proofs.Common.{rules, ◌≡◌, ◌+◌, arith}
use Rattle.rules.specs.Views.{seen}
use Rattle.rules.specs.States.{k, p}
use Rattle.reports.proofs.Listing.{listed_by}
use Rattle.reports.proofs.Taking.{blank, card_of, no_card}
use Rattle.reports.proofs.cards.read_cards.Goals as goal

pub returns : goal.returns
returns g c few parities short components =
    let F = g.S.Symbol.Field.algebra in
    let s = seen g.S.Symbol.Field.meaning c.args.group.now.sizes (g.S.Shelf.contents c.args.group.now.shelf.now) in
    let rows : c.rows-rows.result ≡ k s + p s = omega (arith, c.rows-rows.ensures) in
    let cards = listed_by _ (card_of F s) _ (λ row card f k.
    (search (rules, rows, no_card F s row), search rules)) blank c.from_fn.result 68 c.from_fn.ensures.items in
    λ i. record { rows = rows i; components = c.args.group.now.sizes.card_length; cards = cards i }
