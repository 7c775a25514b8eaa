use Rattle.std.proofs.Common.{◌≡◌, rules, sym, ap, ◌∙◌, arith}
use Rattle.rules.proofs.Rows.{fitting}
use Rattle.rules.specs.Views.{seen}
use Rattle.shelves.specs.Puts.{places_of, unput}
use Rattle.shelves.proofs.Puts.{same_places, next_put}
use Rattle.writes.proofs.Growing.{card_step, card_weight}
use Rattle.writes.proofs.Numbers.{numbered, next_item}
use Rattle.writes.proofs.grow_card.Goals as goal

pub loop-component-init : goal.loop-component-init
loop-component-init g c =
    let none : c.into_iter-component-iterator.result.iter.count ≡ 0 = search rules in record {
      counted = search rules;
      left = search rules;
      held = search rules;
      puts = λ few. same_places g.S.Shelf.stores (ap (places_of c.args.row c.args.place.now.sizes.block_length) (sym none)) unput;
    }

pub loop-component-preserved : goal.loop-component-preserved
loop-component-preserved g c =
    let F = g.S.Symbol.Field.algebra in
    let meaning = g.S.Symbol.Field.meaning in
    let place = c.args.place.now in
    let before = g.S.Shelf.contents c.args.shelf.now in
    let s = seen meaning place.sizes before in
    let i = c.loop-component.component-iterator.iter.count in
    let steps = c.in-Some.ensures.steps in
    let inv = c.loop-component.invariant in
    let item = next_item place.powers i c.in-Some.power.now _ (sym inv.left ∙ steps.0.0) in
    record {
      counted = omega (arith, steps.0.2, steps.1, inv.counted);
      left = item.1 ∙ rw steps.0.2;
      held = rw steps.0.2 (
          card_step F meaning place.sizes before (g.S.Shelf.contents c.loop-component.shelf) _ c.args.row place.index (meaning c.args.change) i c.card_place.result _
          (λ when. when) (λ when. let f = fitting F s when.fitting in omega (arith, c.card_place.ensures, steps.0.1, inv.counted, steps.1))
          (λ when.
          c.product.ensures ∙ ap (λ v. F.mul v (meaning c.args.change))
          (numbered F _ _ c.element-weight.ensures.known (item.0 ∙ place.weighed (let f = fitting F s when.fitting in omega arith) i (omega (arith, inv.counted, steps.1))) ∙ sym (card_weight F s place.index i)))
          (λ when. omega (arith, inv.counted, steps.1)) inv.held (c.grow.ensures.grown place.sizes)
          );
      puts = λ few. rw steps.0.2 (next_put g.S.Shelf.stores c.args.row place.sizes.block_length i c.card_place.result (inv.puts few) (omega (arith, few.block, few.card, c.card_place.ensures, steps.0.1, steps.1, inv.counted)) c.grow.ensures.puts);
    }
