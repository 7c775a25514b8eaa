use Rattle.std.proofs.Common.{◌+◌, ◌<◌, ◌^◌}
use Rattle.rules.specs.Order.{card_places}
use Rattle.shelves.specs.Puts.{PutsAt}
use Rattle.rows.specs.Cards.{Holds, below}
use Rattle.rows.specs.Shown.{SameGroup}
use Rattle.rows.proofs.GroupMut.put_cards.Given as goal

abbrev pub invariant-loop-row : goal.invariant-loop-row
invariant-loop-row g l =
    let F = g.S.Symbol.Field.algebra in
    let meaning = g.S.Symbol.Field.meaning in
    let sizes = l.initial.self.sizes in
    let before = g.S.Shelf.contents l.initial.self.shelf.now in
    record {
      same : SameGroup l.initial.self l.self;
      held : Holds F meaning sizes before (below F meaning sizes before l.row) (g.S.Shelf.contents l.self.shelf.now);
      puts : sizes.block_length + sizes.card_length < 2 ^ 64 → PutsAt g.S.Shelf.stores l.initial.self.shelf.now (card_places sizes l.row) l.self.shelf.now;
    }
