use Rattle.std.proofs.Common.{rules, ◌∙◌, inl, inr}
use Rattle.std.proofs.lemmas.Bool.{cases_lt}
use Rattle.std.proofs.lemmas.List.FromFn.{fill_by_all}
use Rattle.rules.specs.Views.{seen}
use Rattle.reports.specs.Cards.{component_number}
use Rattle.reports.proofs.cards.read_card.Goals as goal

pub returns : goal.returns
returns g c below short few =
    let F = g.S.Symbol.Field.algebra in
    let s = seen g.S.Symbol.Field.meaning c.args.group.now.sizes (g.S.Shelf.contents c.args.group.now.shelf.now) in
    fill_by_all (component_number F s c.args.row) c.numbers_of.result 8 0 (search rules) (λ i h. elim (cases_lt i c.args.group.now.sizes.card_length) [
      | inl l ↦
          let made = c.numbers_of.ensures.numbers i l h in
          let x = made.1 in
          made.2 ∙ search rules
      | inr l ↦ c.numbers_of.ensures.zeros i l h ∙ search rules
    ])
