use Rattle.std.proofs.Common.{◌≡◌, length}
use Rattle.mending.specs.Stored.{stored}
use Rattle.mending.specs.Puts.{weighted_sum}
use Rattle.mending.proofs.WorkedRow.symbol.Given as goal

abbrev pub invariant-loop-source : goal.invariant-loop-source
invariant-loop-source g l =
    let F = g.S.Symbol.Field.algebra in
    g.S.Symbol.Field.meaning l.sum ≡ weighted_sum F g.S.Symbol.Field.meaning (g.S.Shelf.contents l.group.shelf.now) (stored F l.self.weights) (length l.yielded) l.place
