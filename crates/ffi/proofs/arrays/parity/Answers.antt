use Rattle.std.proofs.Common.{◌≡◌, sym, ap, ◌∙◌, arith}
use Rattle.ffi.specs.Parity.{parity_written}
use Rattle.ffi.proofs.Rows.{parity_none, rows_allowed}
use Rattle.ffi.proofs.arrays.parity.Goals as goal

pub returns-then-sizes-eq0 : goal.returns-then-sizes-eq0
returns-then-sizes-eq0 g c =
    let F = g.S.Symbol.Field in
    rw (sym c.if-not-has_rows.ensures) (sym (parity_none F.algebra F.meaning (g.S.Shelf.contents c.args.shelf.now) c.args.sizes c.if-sizes-eq0.true c.args.times c.args.numbers.now))

pub returns : goal.returns
returns g c =
    let F = g.S.Symbol.Field in
    let (few, rows, known) = rows_allowed F.algebra c.args.sizes (sym c.if-not-has_rows.ensures) in
    let end : c.loop-time._time ≡ c.args.times = omega arith in
    rw (sym c.if-not-has_rows.ensures) (
    c.loop-time.invariant few rows known ∙ ap (λ v. parity_written F.algebra F.meaning (g.S.Shelf.contents c.args.shelf.now) c.args.sizes v c.args.numbers.now) end)
