use Rattle.std.proofs.Common.{◌≡◌, ◌+◌, drop}
use Rattle.rules.specs.Views.{seen}
use Rattle.shelves.specs.Puts.{PutsAt, places_of}
use Rattle.writes.specs.Few.{Few}
use Rattle.writes.specs.Steps.{Puts, Readable, cells_of, card_grown}
use Rattle.writes.proofs.grow_card.Given as goal

abbrev pub invariant-loop-component : goal.invariant-loop-component
invariant-loop-component g l =
    let F = g.S.Symbol.Field.algebra in
    let meaning = g.S.Symbol.Field.meaning in
    let sizes = l.place.sizes in
    let before = g.S.Shelf.contents l.initial.shelf in
    let count = l.component-iterator.iter.count in
    record {
      counted : count + l.component-iterator.n ≡ sizes.card_length;
      left : l.component-iterator.iter.iter.rest.now ≡ drop count l.place.powers;
      held : Puts meaning (Readable F meaning sizes before l.row) (card_grown F (seen meaning sizes before) l.row l.place.index (meaning l.change) count (cells_of meaning before)) before (g.S.Shelf.contents l.shelf);
      puts : Few sizes → PutsAt g.S.Shelf.stores l.initial.shelf (places_of l.row sizes.block_length count) l.shelf;
    }
