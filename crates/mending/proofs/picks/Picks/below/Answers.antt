use Rattle.std.proofs.Common.{◌≡◌, ◌<◌, ℕ, length, get_or, sym, ap, ◌∙◌, subst, arith, length-set}
use Rattle.mending.specs.Picked.{Picked}
use Rattle.mending.proofs.Picking.{picking_hit, picking_miss, picking_full}
use Rattle.mending.proofs.picks.Picks.below.Goals as goal
use Rattle.mending.proofs.picks.Picks.below.Goals.{then-count-lt4+then-test, else-count-lt4, else-count-lt4-via-then-count-lt4+else-test, else-count-lt4-via-else-count-lt4}

pub loop-i-preserved : goal.loop-i-preserved
loop-i-preserved g c =
    let i = c.loop-i.i in
    let inv = c.loop-i.invariant in
    elim c.if-count-lt4.branch [
      | then-count-lt4+then-test w ↦ record {
        length_kept = ap length w.at-is ∙ length-set c.loop-i.at c.loop-i.count i ∙ inv.length_kept;
        few = omega (arith, w.count-is, w.if-count-lt4.true);
        picking = λ passes answers.
            rw (w.at-is, w.count-is) (picking_hit passes i c.loop-i.at c.loop-i.count (inv.picking passes answers) inv.length_kept w.if-count-lt4.true (sym (answers i _ c.loop-i-test.true w.test.ensures) ∙ w.if-test.true));
      }
      | else-count-lt4 w ↦ record {
        length_kept = ap length w.at-is ∙ inv.length_kept;
        few = omega (arith, w.count-is, inv.few);
        picking = λ passes answers.
            rw (w.at-is, w.count-is) (elim w.else-count-lt4.branch [
              | else-count-lt4-via-then-count-lt4+else-test v ↦
                  picking_miss passes i c.loop-i.at c.loop-i.count (inv.picking passes answers) (sym (answers i _ c.loop-i-test.true v.test.ensures) ∙ v.if-test.false)
              | else-count-lt4-via-else-count-lt4 v ↦ picking_full passes i c.loop-i.at c.loop-i.count (inv.picking passes answers) v.if-count-lt4.false
            ]);
      }
    ]

pub returns-clause-at : goal.returns-clause-at
returns-clause-at g c passes answers =
    let end : c.loop-i.i ≡ c.args.bound = omega arith in
    subst (λ n. (b : ℕ) → b < c.loop-i.count → Picked n passes b (get_or c.loop-i.at b 0)) end (c.loop-i.invariant.picking passes answers).picks
