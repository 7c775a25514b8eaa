use Rattle.std.proofs.Common.{◌≡◌, ◌+◌, ap, ◌∙◌, arith, length-set}
use Rattle.rules.specs.Views.{seen, element_at}
use Rattle.rows.proofs.Spans.{copied_more}
use Rattle.rows.proofs.copy_span.Goals as goal

pub loop-i-preserved : goal.loop-i-preserved
loop-i-preserved g c room sizes =
    let F = g.S.Symbol.Field.algebra in
    let meaning = g.S.Symbol.Field.meaning in
    let held = g.S.Shelf.contents c.args.shelf.now in
    let same = length-set c.loop-i.buffer c.loop-i.i c.symbol_at.result in
    let at : c.saturating_add.result ≡ c.args.start + c.loop-i.i = omega (arith, same, c.saturating_add.ensures) in
    copied_more F (seen meaning sizes held) c.args.row meaning c.args.start c.loop-i.i c.loop-i.buffer c.symbol_at.result (omega arith)
    (c.loop-i.invariant (omega (arith, same)) sizes) (c.symbol_at.ensures ∙ ap (element_at F meaning held c.args.row) at)
