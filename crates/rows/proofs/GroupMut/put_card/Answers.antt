use Rattle.std.proofs.Common.{rules, ap, ◌∙◌, arith}
use Rattle.shelves.specs.Puts.{unput}
use Rattle.shelves.proofs.Puts.{one_put, next_put}
use Rattle.rows.proofs.Carding.{more, no_overflow}
use Rattle.rows.proofs.GroupMut.put_card.Goals as goal

pub loop-index-init : goal.loop-index-init
loop-index-init g c = record { same = search rules; held = search rules; puts = λ room. unput }

pub loop-index-preserved : goal.loop-index-preserved
loop-index-preserved g c =
    let F = g.S.Symbol.Field.algebra in
    let meaning = g.S.Symbol.Field.meaning in
    let sizes = c.args.self.now.sizes in
    let before = g.S.Shelf.contents c.args.self.now.shelf.now in
    let now_held = g.S.Shelf.contents c.loop-index.self.shelf.now in
    let same = c.loop-index.invariant.same in
    let lengths = ap (λ s. s.block_length) same.sizes in
    record {
      same = record { shelf = same.shelf; sizes = same.sizes };
      held = λ h. rw c.put.ensures.after (more F meaning sizes before c.args.row c.loop-index.index c.card_place.result now_held c.fresh_component-component.result h c.loop-index-test.true (λ fit. omega (arith, c.card_place.ensures, lengths, (no_overflow F meaning sizes before fit).0)) (c.loop-index.invariant.held h) (rw (c.read.ensures.sizes ∙ same.sizes, c.read.ensures.shelf) at c.fresh_component-component.ensures));
      puts = λ room. next_put g.S.Shelf.stores c.args.row sizes.block_length c.loop-index.index _ (c.loop-index.invariant.puts room) (omega (arith, c.card_place.ensures, lengths, room))
          (one_put g.S.Shelf.stores c.args.row c.card_place.result c.fresh_component-component.result c.put.ensures.stored);
    }
