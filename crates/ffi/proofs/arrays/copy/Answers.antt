use Rattle.std.proofs.Common.{◌≡◌, ℕ, min, sym, ap, ◌∙◌, arith}
use Rattle.shelves.specs.Contents.{symbol_of, after_put}
use Rattle.ffi.specs.Copies.{copied_where, before}
use Rattle.ffi.proofs.Copying.{none_copied, put_copied, skip_copied, row_copied, enough_copied, cell_symbol, cell_hole}
use Rattle.ffi.proofs.arrays.copy.Goals as goal
use Rattle.ffi.proofs.arrays.copy.Goals.{in-Some, in_default}

pub loop-row-init : goal.loop-row-init
loop-row-init g c = none_copied (g.S.Shelf.contents c.args.from.now) (g.T.Shelf.contents c.args.to.now)

pub loop-place-preserved : goal.loop-place-preserved
loop-place-preserved g c =
    let from = g.S.Shelf.contents c.args.from.now in
    let to = g.T.Shelf.contents c.args.to.now in
    let row = c.loop-row.row in
    let place = c.loop-place.place in
    let got = c.symbol.ensures ∙ ap symbol_of c.get.ensures in
    elim c.match-symbol.branch [
      | in-Some w ↦
          ap g.T.Shelf.contents w.to-is ∙ w.put.ensures.after ∙ ap (λ held. after_put held row place w.in-Some.symbol) c.loop-place.invariant
          ∙ put_copied from to row place w.in-Some.symbol (cell_symbol from row place w.in-Some.symbol (sym got ∙ w.in-Some.is))
      | in_default w ↦
          ap g.T.Shelf.contents w.to-is ∙ c.loop-place.invariant ∙ skip_copied from to row place (cell_hole from row place (sym got ∙ w.in_default.is))
    ]

pub loop-row-preserved : goal.loop-row-preserved
loop-row-preserved g c =
    let from = g.S.Shelf.contents c.args.from.now in
    let to = g.T.Shelf.contents c.args.to.now in
    let row = c.loop-row.row in
    let end : c.loop-place.place ≡ from.places = omega (arith, c.loop-place-test.false, c.loop-place.auto.place-end, c.places-places.ensures) in
    c.loop-place.invariant ∙ ap (λ (v : ℕ). copied_where from to (before row v)) end ∙ row_copied from to row

pub returns : goal.returns
returns g c =
    let from = g.S.Shelf.contents c.args.from.now in
    let to = g.T.Shelf.contents c.args.to.now in
    let end : c.loop-row.row ≡ min from.rows to.rows = omega (arith, c.loop-row-test.false, c.loop-row.auto.row-end, c.min-row-end.ensures, c.rows.ensures, c.rows-2.ensures) in
    c.loop-row.invariant ∙ enough_copied from to c.loop-row.row end
