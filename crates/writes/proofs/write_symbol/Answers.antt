use Rattle.std.proofs.Common.{length-drop, ◌≡◌, ◌+◌, sym, ap, ◌∙◌, ap₂, arith}
use Rattle.rules.proofs.Rows.{fitting}
use Rattle.rules.specs.Views.{seen}
use native.Mathlib.Numerals.{unary_clauses}
use Rattle.shelves.proofs.Puts.{puts_after}
use Rattle.writes.specs.Steps.{rows_grown, cells_of}
use Rattle.writes.proofs.Growing.{rows_step, all_rows}
use Rattle.writes.proofs.Numbers.{numbered, next_item}
use Rattle.writes.proofs.write_symbol.Goals as goal

pub loop-i-preserved : goal.loop-i-preserved
loop-i-preserved g c =
    let F = g.S.Symbol.Field.algebra in
    let meaning = g.S.Symbol.Field.meaning in
    let place = c.args.place.now in
    let before = g.S.Shelf.contents c.args.shelf.now in
    let s = seen meaning place.sizes before in
    let i = c.loop-i.i-iterator.iter.count in
    let steps = c.in-Some.ensures.steps in
    let inv = c.loop-i.invariant in
    let item = next_item c.args.column.now i c.in-Some.number.now _ (sym inv.left ∙ steps.0.0) in
    record {
      counted = omega (arith, steps.0.2, steps.1, inv.counted);
      left = item.1 ∙ rw steps.0.2;
      held = rw steps.0.2 (
          rows_step F meaning place.sizes before (g.S.Shelf.contents c.loop-i.shelf) _ c.args.row place.index (meaning c.difference-change.result) i c.parity_row-parity_row.result _
          (λ when. when.0.parity i (omega (arith, steps.1, inv.counted))) (λ when. when.1)
          (λ when. let f = fitting F s when.0.fitting in omega (arith, c.parity_row-parity_row.ensures, steps.0.1, steps.1, inv.counted))
          (λ when. c.product.ensures ∙ ap (λ v. F.mul v (meaning c.difference-change.result)) (numbered F _ _ c.element-weight.ensures.known (item.0 ∙ when.2 i (omega (arith, steps.1, inv.counted)))))
          inv.held c.grow_row-in-loop-i.ensures.grown
          );
      puts = λ few.
          let at : c.parity_row-parity_row.result ≡ place.sizes.data_rows + i = omega (arith, few.data_rows, few.parity_rows, c.parity_row-parity_row.ensures, steps.0.1, steps.1, inv.counted) in
          rw steps.0.2 (simp unary_clauses (puts_after g.S.Shelf.stores (inv.puts few) ((rw at at c.grow_row-in-loop-i.ensures.puts) few)));
    }

pub returns-clause-written : goal.returns-clause-written
returns-clause-written g c =
    let F = g.S.Symbol.Field.algebra in
    let meaning = g.S.Symbol.Field.meaning in
    let place = c.args.place.now in
    let before = g.S.Shelf.contents c.args.shelf.now in
    let s = seen meaning place.sizes before in
    let held = c.loop-i.invariant.held in
    record {
      rows = held.rows;
      places = held.places;
      at = λ when r u.
          let f = fitting F s when.0.fitting in
          let none = c.in-None.ensures.steps in
          let inv = c.loop-i.invariant in
          let end : c.loop-i.i-iterator.iter.count ≡ place.sizes.parity_rows = grind (arith, length-drop) in
          held.at when r u
          ∙ ap₂ (λ d i. rows_grown F s c.args.row place.index d i (cells_of meaning before) r u) (c.difference-change.ensures ∙ ap (λ v. F.add (meaning c.args.symbol) (F.neg v)) c.symbol_at.ensures) end
          ∙ all_rows F s c.args.row place.index (meaning c.args.symbol) (cells_of meaning before) r u when.0.inside when.1;
    }
