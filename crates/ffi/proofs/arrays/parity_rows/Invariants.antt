use Rattle.std.proofs.Common.{◌≡◌, ◌+◌, ◌≤◌}
use Rattle.ffi.specs.Parity.{rows_written}
use Rattle.ffi.proofs.arrays.parity_rows.Given as goal

abbrev pub invariant-loop-i : goal.invariant-loop-i
invariant-loop-i g l =
    let F = g.S.Symbol.Field in
    l.sizes.parity_rows ≤ 4 → l.sizes.data_rows ≤ 64 → l.sizes.data_rows + 4 ≤ F.algebra.size → l.numbers ≡ rows_written F.algebra F.meaning (g.S.Shelf.contents l.shelf) l.sizes l.i l.fn.numbers
