use Rattle.shelves.proofs.Puts.{puts_after}
use Rattle.writes.proofs.Growing.{row_step}
use Rattle.writes.proofs.grow_row.Goals as goal

pub returns-clause-grown : goal.returns-clause-grown
returns-clause-grown g c =
    let place = c.args.place.now in
    row_step g.S.Symbol.Field.algebra g.S.Symbol.Field.meaning place.sizes (g.S.Shelf.contents c.args.shelf.now) (g.S.Shelf.contents c.grow.new.shelf) _ c.args.row place.index (g.S.Symbol.Field.meaning c.args.change)
    (c.grow.ensures.grown place.sizes) c.grow_card.ensures.grown

pub returns-clause-puts : goal.returns-clause-puts
returns-clause-puts g c few = puts_after g.S.Shelf.stores c.grow.ensures.puts (c.grow_card.ensures.puts few)
