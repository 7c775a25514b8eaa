use Rattle.std.proofs.Common.{◌≡◌, ◌+◌, Err, sym, ap, ◌∙◌, ap₂, arith}
use Rattle.rules.specs.States.{k, p}
use Rattle.rules.specs.declared.Refusal.TheVariants.{Unreadable, Misfit}
use Rattle.rules.proofs.Found.{lowest_pair_some}
use Rattle.rules.proofs.Rows.{fitting}
use Rattle.tray.specs.State.{state, stretch_found, stretch_misfit}
use Rattle.tray.proofs.Answering.{holes_found}
use Rattle.tray.proofs.Tray.check_stretch.Goals as goal

pub returns-in-Some : goal.returns-in-Some
returns-in-Some g c fit room =
    let F = g.S.Symbol.Field.algebra in
    let meaning = g.S.Symbol.Field.meaning in
    let s = state g.S.Shelf.contents meaning c.args.self.now in
    let f = fitting F s fit in
    let hit = holes_found F meaning c.args.self.now.sizes (g.S.Shelf.contents c.args.self.now.shelf) fit c.args.start c.args.places _ (rw (c.group.ensures.sizes, c.group.ensures.shelf) at (c.first_hole.ensures (omega (arith, f, room)))) ∙ c.in-Some.is in
    let low = lowest_pair_some (k s + p s) c.args.places _ c.in-Some.row c.in-Some.offset hit in
    let at : c.saturating_add.result ≡ c.args.start + c.in-Some.offset = omega (arith, c.saturating_add.ensures, f, room, low.1) in
    ap (λ v. Err (Unreadable c.in-Some.row v)) at ∙ sym (ap (λ o. stretch_found F s c.args.start o (stretch_misfit F s c.args.start c.args.places)) hit)

pub returns-in-Some-first_misfit : goal.returns-in-Some-first_misfit
returns-in-Some-first_misfit g c fit room =
    let F = g.S.Symbol.Field.algebra in
    let meaning = g.S.Symbol.Field.meaning in
    let s = state g.S.Shelf.contents meaning c.args.self.now in
    let f = fitting F s fit in
    let whole = holes_found F meaning c.args.self.now.sizes (g.S.Shelf.contents c.args.self.now.shelf) fit c.args.start c.args.places _ (rw (c.group.ensures.sizes, c.group.ensures.shelf) at (c.first_hole.ensures (omega (arith, f, room)))) ∙ c.in_default.is in
    let misfits = (rw (c.group-2.ensures.sizes, c.group-2.ensures.shelf) at c.first_misfit.ensures) (omega (arith, f, room)) (omega (arith, f.k_high, f.p_high)) (omega (arith, f.p_high, f.enough)) f.k_high f.enough in
    let hit = sym misfits ∙ c.in-Some-first_misfit.is in
    let low = lowest_pair_some (p s) c.args.places _ c.in-Some-first_misfit.i c.in-Some-first_misfit.offset hit in
    let at : c.saturating_add-in-Some-first_misfit.result ≡ c.args.start + c.in-Some-first_misfit.offset = omega (arith, c.saturating_add-in-Some-first_misfit.ensures, f, room, low.1) in
    let of : c.parity_row-row.result ≡ k s + c.in-Some-first_misfit.i = omega (arith, c.parity_row-row.ensures, f, low.0) in
    ap₂ (λ r v. Err (Misfit r v)) of at ∙ sym (ap₂ (stretch_found F s c.args.start) whole hit)

pub returns : goal.returns
returns g c fit room =
    let F = g.S.Symbol.Field.algebra in
    let meaning = g.S.Symbol.Field.meaning in
    let s = state g.S.Shelf.contents meaning c.args.self.now in
    let f = fitting F s fit in
    let whole = holes_found F meaning c.args.self.now.sizes (g.S.Shelf.contents c.args.self.now.shelf) fit c.args.start c.args.places _ (rw (c.group.ensures.sizes, c.group.ensures.shelf) at (c.first_hole.ensures (omega (arith, f, room)))) ∙ c.in_default.is in
    let misfits = (rw (c.group-2.ensures.sizes, c.group-2.ensures.shelf) at c.first_misfit.ensures) (omega (arith, f, room)) (omega (arith, f.k_high, f.p_high)) (omega (arith, f.p_high, f.enough)) f.k_high f.enough in
    sym (ap₂ (stretch_found F s c.args.start) whole (sym misfits ∙ c.in_default-first_misfit.is))
