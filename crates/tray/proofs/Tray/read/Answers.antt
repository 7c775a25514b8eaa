use Rattle.std.proofs.Common.{sym, ◌∙◌, arith}
use Rattle.rules.proofs.Rows.{fitting}
use Rattle.tray.specs.State.{state}
use Rattle.tray.proofs.Answering.{row_count, read_copied, allowed_fits, span_passed}
use Rattle.tray.proofs.Tray.read.Goals as goal

pub returns-clause-promise : goal.returns-clause-promise
returns-clause-promise g c =
    let F = g.S.Symbol.Field.algebra in
    let meaning = g.S.Symbol.Field.meaning in
    let s = state g.S.Shelf.contents meaning c.args.self.now in
    let fit = c.in_ok-ready.ensures.0 in
    let f = fitting F s fit in
    let all = row_count F s fit c.rows.ensures in
    let passed = sym (c.check_span.ensures fit) ∙ c.in_ok-check_span.was in
    let small = allowed_fits F s _ _ (span_passed F s c.args.row c.args.start _ _ passed).0 in
    read_copied F s fit c.in_ok-ready.ensures.1 c.args.row c.args.start _ (omega arith) _ _ passed (c.copy_span.ensures (omega (arith, small)) c.args.self.now.sizes)
