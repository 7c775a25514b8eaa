use Rattle.std.proofs.Common.{◌≡◌, ◌≤◌, ◌<◌, ◌+◌, List, ℕ, [], length, ◌++◌, drop, replicate, sym, ap, ◌∙◌, subst, subst₂, arith, rules}
use Rattle.std.proofs.lemmas.List.{get_or_append_left}
use Rattle.rules.specs.declared.Sizes.{Sizes}
use Rattle.rules.proofs.Counted.{counted_not}
use Rattle.mending.specs.declared.Damage.{Damage}
use Rattle.mending.specs.Plans.{flag, RowsFit, WorkedBy}
use Rattle.mending.proofs.Planning.{planned_by, Weights}
use Rattle.mending.proofs.Stating.{planned_ready, planned_ready_for}
use Rattle.mending.proofs.plans.Plan.new.Goals as goal

pub returns-clause-planned : goal.returns-clause-planned
returns-clause-planned g c fit enough =
    let F = g.F.Field.algebra in
    let choice = c.new-choice.result in
    let chosen = c.new-choice.ensures in
    let sizes = c.args.sizes in
    let sound = flag c.args.damage in
    let bound : sizes.data_rows + sizes.parity_rows ≤ 68 = omega (arith, fit.few, fit.four) in
    let at_most = counted_not sizes.parity_rows (λ i. sound (sizes.data_rows + i)) in
    let same = chosen.sizes in
    let rest : List (List ℕ) = drop c.min.result (replicate 68 (replicate 4 0)) in
    let weights : List (List ℕ) = c.loop-row.worked-items ++ rest in
    record {
      sizes_are = chosen.sizes;
      damage_is = chosen.damage;
      planned = planned_by F sizes.data_rows sizes.parity_rows sound choice weights fit.room fit.four enough (chosen.lost_count (omega (arith, enough, at_most, fit.four))) chosen.lost_at
          (chosen.used_count bound (omega (arith, at_most, fit.four))) (chosen.used_at bound)
          (subst₂ (λ (s : Sizes) (d : Damage). Weights F s.data_rows s.parity_rows (flag d) choice weights) chosen.sizes chosen.damage
          (λ square row h.
          let fits : RowsFit F choice.sizes = rw same fit in
          let here : row < c.min.result = omega (arith, ap (λ (z : Sizes). z.data_rows) same, ap (λ (z : Sizes). z.parity_rows) same, c.rows.ensures, c.min.ensures) in
          let long : length c.loop-row.worked-items ≡ c.min.result = c.loop-row.auto.worked-items ∙ search rules in
          subst (WorkedBy F choice row) (sym (get_or_append_left c.loop-row.worked-items rest [] row (omega (arith, here, long)))) (c.loop-row.invariant row (omega (arith, here, long, c.loop-row-test.false))) fits h square));
    }

pub returns-clause-ready : goal.returns-clause-ready
returns-clause-ready g c s same fit few gathered =
    planned_ready g.F.Field.algebra s fit (omega (arith, few, ap (λ (z : Sizes). z.parity_rows) same)) c.args.damage gathered c.args.sizes _ same (returns-clause-planned g c)

pub returns-clause-ready_for : goal.returns-clause-ready_for
returns-clause-ready_for g c s same fit few gathered =
    planned_ready_for g.F.Field.algebra s fit (omega (arith, few, ap (λ (z : Sizes). z.parity_rows) same)) c.args.damage gathered c.args.sizes _ same (returns-clause-planned g c)
