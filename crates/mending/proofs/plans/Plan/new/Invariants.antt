use Rattle.std.proofs.Common.{◌<◌, ℕ, [], get_or}
use Rattle.mending.specs.Plans.{WorkedBy}
use Rattle.mending.proofs.plans.Plan.new.Given as goal

abbrev pub invariant-loop-row : goal.invariant-loop-row
invariant-loop-row g l = (row : ℕ) → row < l.row → WorkedBy g.F.Field.algebra l.choice row (get_or l.worked-items row [])
