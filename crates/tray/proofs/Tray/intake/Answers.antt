use Rattle.std.proofs.Common.{sym, ◌∙◌, arith}
use Rattle.rules.proofs.Rows.{fitting}
use Rattle.tray.specs.State.{state}
use Rattle.tray.proofs.Answering.{intake_taken}
use Rattle.tray.proofs.Tray.intake.Goals as goal

pub returns-clause-promise : goal.returns-clause-promise
returns-clause-promise g c =
    let F = g.S.Symbol.Field.algebra in
    let meaning = g.S.Symbol.Field.meaning in
    let s = state g.S.Shelf.contents meaning c.args.self.now in
    let fit = sym c.if-not-fits.ensures in
    intake_taken F s fit c.if-self.false _ (sym (c.check_stretch.ensures fit (omega arith)) ∙ c.in_ok-check_stretch.was) _ (c.put_cards.ensures.cards.cards fit)

pub returns-clause-order : goal.returns-clause-order
returns-clause-order g c =
    let f = fitting g.S.Symbol.Field.algebra (state g.S.Shelf.contents g.S.Symbol.Field.meaning c.args.self.now) (sym c.if-not-fits.ensures) in
    c.put_cards.ensures.puts (omega (arith, f.k_high, f.p_high)) (omega (arith, f.n_high, f.m_high))

pub returns-clause-puts : goal.returns-clause-puts
returns-clause-puts g c = record { places = _; puts = returns-clause-order g c }
