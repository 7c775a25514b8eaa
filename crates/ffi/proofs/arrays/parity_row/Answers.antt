use Rattle.std.proofs.Common.{ap, ◌∙◌, arith}
use Rattle.rows.proofs.Combining.{combined_few}
use Rattle.ffi.proofs.Rows.{row_more}
use Rattle.ffi.proofs.arrays.parity_row.Goals as goal

pub loop-place-preserved : goal.loop-place-preserved
loop-place-preserved g c low few known =
    let F = g.S.Symbol.Field in
    row_more F.algebra F.meaning (g.S.Shelf.contents c.args.shelf.now) c.args.sizes c.args.i c.loop-place.place c.loop-place.numbers c.number.result (omega arith)
    (c.loop-place.invariant low few known) (c.number.ensures ∙ ap F.algebra.number (combined_few F.algebra _ _ _ c.args.i few (c.coefficient_row-coefficients.ensures.known (omega (arith, low, known)) few known) (c.combination.ensures c.args.i)))
