use Rattle.std.proofs.Common.{rules, ◌∙◌, arith}
use Rattle.shelves.specs.Puts.{unput}
use Rattle.rules.proofs.Rows.{fitting}
use Rattle.rules.specs.Views.{seen}
use Rattle.writes.proofs.Ordering.{symbol_more}
use Rattle.writes.proofs.Spans.{written_more, all_written}
use Rattle.writes.proofs.write_symbols.Goals as goal

pub loop-symbol-init : goal.loop-symbol-init
loop-symbol-init g c = record { same = search rules; place_sizes = search rules; at = search rules; held = search rules; puts = λ few inside. unput }

pub loop-symbol-preserved : goal.loop-symbol-preserved
loop-symbol-preserved g c =
    let F = g.S.Symbol.Field.algebra in
    let meaning = g.S.Symbol.Field.meaning in
    let sizes = c.args.group.now.sizes in
    let before = g.S.Shelf.contents c.args.group.now.shelf.now in
    let s = seen meaning sizes before in
    let inv = c.loop-symbol.invariant in
    record {
      same = record { shelf = inv.same.shelf; sizes = inv.same.sizes };
      place_sizes = c.advance.ensures.sizes ∙ inv.place_sizes;
      at = λ room. let at = inv.at (omega (arith, room)) in let next = c.advance.ensures.place (omega (arith, room, at)) in omega (arith, at, next);
      held = written_more F meaning sizes before c.args.row c.args.start c.loop-symbol.symbol-index c.loop-symbol.place.index c.args.symbols.now c.symbol-item.result c.coefficient_column-column.result
          (g.S.Shelf.contents c.loop-symbol.group.shelf.now) _ (omega arith) c.symbol-item.is (λ room w. let f = fitting F s w.fitting in inv.at (omega arith))
          (λ w. let f = fitting F s w.fitting in let h = w.inside in c.coefficient_column-column.ensures (omega arith) (omega arith) (omega arith))
          inv.held (rw inv.place_sizes at c.write_symbol.ensures.written);
      puts = λ few inside.
          symbol_more g.S.Shelf.stores sizes c.loop-symbol.place.sizes inv.place_sizes c.args.row c.args.start c.loop-symbol.symbol-index c.loop-symbol.place.index (inv.at (omega (arith, few.block, inside))) (inv.puts few inside) c.write_symbol.ensures.puts few;
    }

pub returns-clause-written : goal.returns-clause-written
returns-clause-written g c =
    let group = c.args.group.now in
    all_written g.S.Symbol.Field.algebra g.S.Symbol.Field.meaning group.sizes (g.S.Shelf.contents group.shelf.now) c.args.row c.args.start c.loop-symbol.symbol-index c.args.symbols.now
    (g.S.Shelf.contents c.loop-symbol.group.shelf.now) (omega arith) c.loop-symbol.invariant.held
