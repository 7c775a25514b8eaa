use Rattle.std.proofs.Common.{◌≡◌, ◌+◌, ◌^◌, ◌<◌, ◌≤◌, length, take}
use Rattle.std.specs.Prelude.{map}
use Rattle.rows.specs.Shown.{SameGroup}
use Rattle.rules.specs.Updates.{written}
use Rattle.rules.specs.Views.{seen}
use Rattle.shelves.specs.Puts.{PutsAt}
use Rattle.rules.specs.Order.{written_places}
use Rattle.writes.specs.Few.{Few}
use Rattle.writes.specs.Steps.{Puts, Writable, cells_of}
use Rattle.writes.proofs.write_symbols.Given as goal

abbrev pub invariant-loop-symbol : goal.invariant-loop-symbol
invariant-loop-symbol g l =
    let F = g.S.Symbol.Field.algebra in
    let meaning = g.S.Symbol.Field.meaning in
    let sizes = l.initial.group.sizes in
    let before = g.S.Shelf.contents l.initial.group.shelf.now in
    let i = l.symbol-index in
    record {
      same : SameGroup l.initial.group l.group;
      place_sizes : l.place.sizes ≡ sizes;
      at : l.start + i < 2 ^ 64 → l.place.index ≡ l.start + i;
      held : Puts meaning (Writable F meaning sizes before l.row × (l.start + length l.symbols ≤ sizes.block_length))
          (written F (seen meaning sizes before) l.row l.start (map meaning (take i l.symbols)) (cells_of meaning before)) before (g.S.Shelf.contents l.group.shelf.now);
      puts : Few sizes → l.start + length l.symbols ≤ sizes.block_length → PutsAt g.S.Shelf.stores l.initial.group.shelf.now (written_places sizes l.row l.start i) l.group.shelf.now;
    }
