use Rattle.std.proofs.Common.{◌≡◌, true, false, refl, sym, ap, ◌∙◌, arith}
use Rattle.rules.specs.Calls.{is_sound}
use Rattle.rules.specs.States.{sound}
use Rattle.rules.proofs.Rows.{fitting}
use Rattle.tray.specs.State.{state}
use Rattle.tray.proofs.Tray.check_span.Goals as goal

pub returns-then-not-is_sound : goal.returns-then-not-is_sound
returns-then-not-is_sound g c fit =
    let F = g.S.Symbol.Field.algebra in
    let meaning = g.S.Symbol.Field.meaning in
    let s = state g.S.Shelf.contents meaning c.args.self.now in
    let f = fitting F s fit in
    let found = (rw (c.group.ensures.sizes, c.group.ensures.shelf) at c.audit-verdict.ensures) (omega (arith, f.n_high, f.m_high)) in
    let unsound : sound F s c.args.row ≡ false = ap is_sound (sym found) ∙ sym c.if-not-is_sound.ensures in
    rw (sym c.if-not-allows.ensures, unsound, found) refl

pub returns : goal.returns
returns g c fit =
    let F = g.S.Symbol.Field.algebra in
    let meaning = g.S.Symbol.Field.meaning in
    let s = state g.S.Shelf.contents meaning c.args.self.now in
    let f = fitting F s fit in
    let found = (rw (c.group.ensures.sizes, c.group.ensures.shelf) at c.audit-verdict.ensures) (omega (arith, f.n_high, f.m_high)) in
    let whole : sound F s c.args.row ≡ true = ap is_sound (sym found) ∙ sym c.if-not-is_sound.ensures in
    rw (sym c.if-not-allows.ensures, whole) refl
