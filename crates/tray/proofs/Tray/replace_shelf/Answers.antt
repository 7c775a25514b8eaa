use Rattle.std.proofs.Common.{ap, ◌∙◌}
use Rattle.rules.specs.Views.{seen_contents}
use Rattle.tray.specs.State.{state, on_contents}
use Rattle.tray.proofs.Answering.{exchanged}
use Rattle.tray.proofs.Tray.replace_shelf.Goals as goal

pub returns-clause-damage : goal.returns-clause-damage
returns-clause-damage g c rows places =
    let meaning = g.S.Symbol.Field.meaning in
    let s = state g.S.Shelf.contents meaning c.args.self.now in
    ap (λ shelf. on_contents s (seen_contents meaning (g.S.Shelf.contents shelf))) c.replace.ensures.after
    ∙ exchanged s (seen_contents meaning (g.S.Shelf.contents c.args.shelf)) rows places
