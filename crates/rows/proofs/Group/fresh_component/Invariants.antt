use Rattle.std.proofs.Common.{◌≡◌}
use Rattle.rules.specs.Codes.{base}
use Rattle.rules.specs.Views.{element_at}
use Rattle.rows.proofs.Horner.{part}
use Rattle.rows.proofs.Group.fresh_component.Given as goal

abbrev pub invariant-loop-place : goal.invariant-loop-place
invariant-loop-place g l =
    let F = g.S.Symbol.Field.algebra in
    g.S.Symbol.Field.meaning l.sum ≡ part F l.self.sizes.block_length (element_at F g.S.Symbol.Field.meaning (g.S.Shelf.contents l.self.shelf.now) l.row) (base F l.index) l.place
