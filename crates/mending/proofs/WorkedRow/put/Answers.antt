use Rattle.shelves.proofs.Puts.{puts_after}
use Rattle.mending.specs.Stored.{stored}
use Rattle.mending.proofs.Putting.{row_put}
use Rattle.mending.proofs.WorkedRow.put.Goals as goal

pub returns-clause-cells : goal.returns-clause-cells
returns-clause-cells g c h =
    let F = g.S.Symbol.Field.algebra in
    let meaning = g.S.Symbol.Field.meaning in
    let sizes = c.args.group.now.sizes in
    let row = c.args.self.now in
    let same = c.put_block.ensures.same.sizes in
    row_put F meaning sizes (g.S.Shelf.contents c.args.group.now.shelf.now) (stored F row.weights) row.row (g.S.Shelf.contents c.put_block.new.group.shelf.now) (g.S.Shelf.contents c.put_card.new.self.shelf.now) h
    (c.put_block.ensures.block h) ((rw same at c.put_card.ensures.cards) h)

pub returns-clause-puts : goal.returns-clause-puts
returns-clause-puts g c room =
    let same = c.put_block.ensures.same.sizes in
    puts_after g.S.Shelf.stores c.put_block.ensures.puts ((rw same at c.put_card.ensures.puts) room)
