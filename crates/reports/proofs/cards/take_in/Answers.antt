use Rattle.std.proofs.Common.{rules, tests, ap}
use Rattle.rules.specs.Views.{seen_contents}
use Rattle.reports.proofs.Taking.{told, left}
use Rattle.reports.proofs.cards.take_in.Goals as goal

pub returns-clause-outcome : goal.returns-clause-outcome
returns-clause-outcome g c =
    told g.S.Symbol.Field.algebra _ _ _ _ c.over-tray.ensures.state c.intake-taken.result c.intake-taken.ensures.promise c.map-cards.result c.map-cards.ensures.cases (λ cards read. search (rules, tests))

pub returns-clause-left : goal.returns-clause-left
returns-clause-left g c =
    left g.S.Symbol.Field.algebra _ _ _ _ c.over-tray.ensures.state c.intake-taken.result c.intake-taken.ensures.promise c.map-cards.result c.map-cards.ensures.cases _
    (ap (λ v. seen_contents g.S.Symbol.Field.meaning (g.S.Shelf.contents v)) c.into_shelf-shelf.ensures)
