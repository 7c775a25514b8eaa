use Rattle.std.proofs.Common.{◌+◌, ◌<◌, ◌^◌}
use Rattle.shelves.specs.Puts.{PutsAt, places_of}
use Rattle.rows.specs.Cards.{Holds, partly}
use Rattle.rows.specs.Shown.{SameGroup}
use Rattle.rows.proofs.GroupMut.put_card.Given as goal

abbrev pub invariant-loop-index : goal.invariant-loop-index
invariant-loop-index g l =
    let F = g.S.Symbol.Field.algebra in
    let meaning = g.S.Symbol.Field.meaning in
    let sizes = l.initial.self.sizes in
    let before = g.S.Shelf.contents l.initial.self.shelf.now in
    record {
      same : SameGroup l.initial.self l.self;
      held : l.row < sizes.data_rows + sizes.parity_rows → Holds F meaning sizes before (partly F meaning sizes before l.row l.index) (g.S.Shelf.contents l.self.shelf.now);
      puts : sizes.block_length + sizes.card_length < 2 ^ 64 → PutsAt g.S.Shelf.stores l.initial.self.shelf.now (places_of l.row sizes.block_length l.index) l.self.shelf.now;
    }
