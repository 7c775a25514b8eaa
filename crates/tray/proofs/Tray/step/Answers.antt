use Rattle.std.proofs.Common.{sym, ap, ◌∙◌, arith}
use Rattle.rules.specs.Sheets.{turn_answer, turned}
use Rattle.rules.specs.declared.Action.TheVariants.{Step}
use Rattle.rules.proofs.Rows.{fitting}
use Rattle.tray.specs.State.{state}
use Rattle.tray.proofs.Answering.{step_judged}
use Rattle.tray.proofs.Tray.step.Goals as goal

pub returns-clause-promise : goal.returns-clause-promise
returns-clause-promise g c =
    let F = g.S.Symbol.Field.algebra in
    let s = state g.S.Shelf.contents g.S.Symbol.Field.meaning c.args.self.now in
    let f = fitting F s c.in_ok-ready.ensures.0 in
    step_judged F s c.in_ok-ready.ensures.0 c.in_ok-ready.ensures.1 c.in_ok-row.row c.act.new.self c.enter.new.self c.audit-verdict.result
    (ap (turn_answer s.round Step) (sym c.rows-rows.ensures) ∙ sym c.act.ensures.answer ∙ c.in_ok-row.was) (c.act.ensures.after ∙ ap (turned s.round Step) c.rows-rows.ensures)
    ((rw (c.group.ensures.sizes, c.group.ensures.shelf) at c.audit-verdict.ensures) (omega (arith, f.n_high, f.m_high))) c.enter.ensures
