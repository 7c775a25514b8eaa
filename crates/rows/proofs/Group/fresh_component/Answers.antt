use Rattle.std.proofs.Common.{◌∙◌, ap₂, arith}
use Rattle.rules.specs.Codes.{base}
use Rattle.rules.specs.Views.{element_at}
use Rattle.rows.proofs.Horner.{part_more}
use Rattle.rows.proofs.Group.fresh_component.Goals as goal

pub loop-place-preserved : goal.loop-place-preserved
loop-place-preserved g c =
    let F = g.S.Symbol.Field.algebra in
    let f = element_at F g.S.Symbol.Field.meaning (g.S.Shelf.contents c.args.self.now.shelf.now) c.args.row in
    c.sum-sum.ensures
    ∙ ap₂ F.add c.symbol_at.ensures (c.product.ensures ∙ ap₂ F.mul c.power_of_alpha-point.ensures c.loop-place.invariant)
    ∙ part_more F c.args.self.now.sizes.block_length f (base F c.args.index) c.loop-place.place (omega arith) (omega arith)
