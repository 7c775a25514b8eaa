use Rattle.std.proofs.Common.{◌+◌, ◌<◌}
use Rattle.shelves.specs.Puts.{PutsAt, places_of}
use Rattle.rows.specs.Cards.{Holds}
use Rattle.rows.specs.Shown.{SameGroup}
use Rattle.mending.specs.Stored.{stored}
use Rattle.mending.specs.Puts.{block_cells}
use Rattle.mending.proofs.WorkedRow.put_block.Given as goal

abbrev pub invariant-loop-place : goal.invariant-loop-place
invariant-loop-place g l =
    let F = g.S.Symbol.Field.algebra in
    let meaning = g.S.Symbol.Field.meaning in
    let sizes = l.initial.group.sizes in
    let before = g.S.Shelf.contents l.initial.group.shelf.now in record {
      same : SameGroup l.initial.group l.group;
      held : l.self.row < sizes.data_rows + sizes.parity_rows → Holds F meaning sizes before (block_cells F meaning sizes (stored F l.self.weights) l.self.row before l.place) (g.S.Shelf.contents l.group.shelf.now);
      puts : PutsAt g.S.Shelf.stores l.initial.group.shelf.now (places_of l.self.row 0 l.place) l.group.shelf.now;
    }
