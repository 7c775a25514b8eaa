use Rattle.std.proofs.Common.{◌≡◌, ◌<◌, sym, subst, ap, min, length, ◌∙◌, arith, length-take}
use native.Mathlib.Decide.{ℕ_discrete}
use Rattle.std.proofs.lemmas.List.{length-replicate, get_or-set_other, get_or_append_left}
use Rattle.std.proofs.lemmas.Grind.{get_or-set_at}
use Rattle.rows.proofs.numbers_of.Goals as goal

pub loop-i-init : goal.loop-i-init
loop-i-init g c t l = absurd (omega arith)

pub loop-i-preserved : goal.loop-i-preserved
loop-i-preserved g c t l = elim (ℕ_discrete t c.loop-i.i) [
  | yes e ↦ (c.element.result, subst (λ j. goal.E-post g c.args.element j c.element.result) (sym e) c.element.ensures, get_or-set_at c.loop-i.number-items c.loop-i.i t c.number.result 0 e (omega (arith, c.loop-i.auto.number-items, c.loop-i-test.true)) ∙ c.number.ensures)
  | no ne ↦
      let x = c.loop-i.invariant t (omega (arith, ne)) in
      (x.0, x.1, get_or-set_other c.loop-i.number-items c.loop-i.i t c.number.result 0 ne ∙ x.2)
]

pub returns-clause-numbers : goal.returns-clause-numbers
returns-clause-numbers g c i l h =
    let size : length c.loop-i.number-items ≡ min c.min.result g.row.N = c.loop-i.auto.number-items ∙ length-take c.min.result _ ∙ ap (min c.min.result) (length-replicate _ 0) in
    let inside : i < length c.loop-i.number-items = omega (arith, size, c.min.ensures) in
    let x = c.loop-i.invariant i (omega (arith, inside, c.loop-i.auto.number-items, c.loop-i-test.false)) in
    (x.0, x.1, get_or_append_left c.loop-i.number-items _ 0 i inside ∙ x.2)
