use Rattle.std.proofs.Common.{◌≡◌, ◌+◌, ◌≤◌}
use Rattle.ffi.specs.Parity.{parity_written}
use Rattle.ffi.proofs.arrays.parity.Given as goal

abbrev pub invariant-loop-time : goal.invariant-loop-time
invariant-loop-time g l =
    let F = g.S.Symbol.Field in
    l.sizes.parity_rows ≤ 4 → l.sizes.data_rows ≤ 64 → l.sizes.data_rows + 4 ≤ F.algebra.size → l.numbers ≡ parity_written F.algebra F.meaning (g.S.Shelf.contents l.shelf) l.sizes l._time l.fn.numbers
