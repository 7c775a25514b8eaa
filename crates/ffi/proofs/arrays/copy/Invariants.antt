use Rattle.std.proofs.Common.{◌≡◌}
use Rattle.ffi.specs.Copies.{copied_where, before}
use Rattle.ffi.proofs.arrays.copy.Given as goal

abbrev pub invariant-loop-row : goal.invariant-loop-row
invariant-loop-row g l = g.T.Shelf.contents l.to ≡ copied_where (g.S.Shelf.contents l.from) (g.T.Shelf.contents l.fn.to) (before l.row 0)

abbrev pub invariant-loop-place : goal.invariant-loop-place
invariant-loop-place g l = g.T.Shelf.contents l.to ≡ copied_where (g.S.Shelf.contents l.from) (g.T.Shelf.contents l.fn.to) (before l.row l.place)
