use Rattle.std.proofs.Common.{◌≡◌, ◌+◌, min, ◌-◌, ◌^◌, not, ap, ◌∙◌, arith, rules}
use Rattle.mending.specs.Plans.{flag}
use Rattle.mending.proofs.plans.Choice.new.Goals as goal

pub invariant_of-result : goal.invariant_of-result
invariant_of-result c = record { lost_below = λ b h. (c.below-lost.ensures.at (λ j. not (flag c.args.damage j)) (λ i answer l e. search rules) b h).below }

pub returns-clause-lost_at : goal.returns-clause-lost_at
returns-clause-lost_at c b h = c.below-lost.ensures.at (λ j. not (flag c.args.damage j)) (λ i answer l e. search rules) b h

pub returns-clause-used_at : goal.returns-clause-used_at
returns-clause-used_at c all a h = c.below-used.ensures.at (λ i. flag c.args.damage (c.args.sizes.data_rows + i)) (λ i answer l e. let m : answer ≡ flag c.args.damage (min (c.args.sizes.data_rows + i) (2 ^ 64 - 1)) = search rules in m ∙ ap (flag c.args.damage) (omega arith)) a h
