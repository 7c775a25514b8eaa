use Rattle.std.proofs.Common.{rules, arith, sym, subst, ◌∙◌}
use Rattle.shelves.specs.Puts.{unput}
use Rattle.shelves.proofs.Puts.{one_put, next_put}
use Rattle.rows.specs.Cards.{Holds}
use Rattle.mending.specs.Stored.{stored}
use Rattle.mending.specs.Puts.{block_cells}
use Rattle.mending.proofs.Putting.{block_more}
use Rattle.mending.proofs.WorkedRow.put_block.Goals as goal

pub loop-place-init : goal.loop-place-init
loop-place-init g c = record { same = search rules; held = search rules; puts = unput }

pub loop-place-preserved : goal.loop-place-preserved
loop-place-preserved g c =
    let F = g.S.Symbol.Field.algebra in
    let meaning = g.S.Symbol.Field.meaning in
    let sizes = c.args.group.now.sizes in
    let before = g.S.Shelf.contents c.args.group.now.shelf.now in
    let now = g.S.Shelf.contents c.loop-place.group.shelf.now in
    let same = c.loop-place.invariant.same in
    let row = c.args.self.now in
    let weights = stored F row.weights in record {
      same = record { shelf = same.shelf; sizes = same.sizes };
      held = λ h.
          subst (Holds F meaning sizes before (block_cells F meaning sizes weights row.row before _)) (sym c.put.ensures.after)
          (block_more F meaning sizes before weights row.row c.loop-place.place now c.symbol-symbol.result h c.loop-place-test.true (c.loop-place.invariant.held h) (rw (c.read.ensures.sizes ∙ same.sizes, c.read.ensures.shelf) at c.symbol-symbol.ensures));
      puts = next_put g.S.Shelf.stores row.row 0 c.loop-place.place c.loop-place.place c.loop-place.invariant.puts (omega arith)
          (one_put g.S.Shelf.stores row.row c.loop-place.place c.symbol-symbol.result c.put.ensures.stored);
    }
