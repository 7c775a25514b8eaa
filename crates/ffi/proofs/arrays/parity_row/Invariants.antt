use Rattle.std.proofs.Common.{◌≡◌, ◌+◌, ◌<◌, ◌≤◌, take}
use Rattle.ffi.specs.Parity.{row_numbers}
use Rattle.ffi.proofs.arrays.parity_row.Given as goal

abbrev pub invariant-loop-place : goal.invariant-loop-place
invariant-loop-place g l =
    let F = g.S.Symbol.Field in
    l.i < 4 → l.sizes.data_rows ≤ 64 → l.sizes.data_rows + 4 ≤ F.algebra.size → take l.place l.numbers ≡ row_numbers F.algebra F.meaning (g.S.Shelf.contents l.shelf) l.sizes l.i 0 l.place
