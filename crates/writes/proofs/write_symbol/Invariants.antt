use Rattle.std.proofs.Common.{◌≡◌, ◌+◌, ◌<◌, drop}
use Rattle.rules.specs.Views.{seen}
use Rattle.shelves.specs.Puts.{PutsAt}
use Rattle.rules.specs.Order.{symbol_places}
use Rattle.writes.specs.Few.{Few}
use Rattle.writes.specs.Steps.{Puts, Writable, cells_of, rows_grown}
use Rattle.writes.specs.Weights.{Column}
use Rattle.writes.proofs.write_symbol.Given as goal

abbrev pub invariant-loop-i : goal.invariant-loop-i
invariant-loop-i g l =
    let F = g.S.Symbol.Field.algebra in
    let meaning = g.S.Symbol.Field.meaning in
    let sizes = l.place.sizes in
    let before = g.S.Shelf.contents l.fn.shelf in
    let count = l.i-iterator.iter.count in
    record {
      counted : count + l.i-iterator.n ≡ sizes.parity_rows;
      left : l.i-iterator.iter.iter.rest.now ≡ drop count l.column;
      held : Puts meaning (Writable F meaning sizes before l.row × (l.place.index < sizes.block_length) × Column F l.row sizes.parity_rows l.column)
          (rows_grown F (seen meaning sizes before) l.row l.place.index (meaning l.change) count (cells_of meaning before)) before (g.S.Shelf.contents l.shelf);
      puts : Few sizes → PutsAt g.S.Shelf.stores l.fn.shelf (symbol_places sizes l.row l.place.index count) l.shelf;
    }
