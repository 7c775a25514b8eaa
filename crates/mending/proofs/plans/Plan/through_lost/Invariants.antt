use Rattle.std.proofs.Common.{◌≡◌, ℕ, ◌+◌, ◌<◌, get_or}
use Rattle.algebra.specs.Sum.{sum_to}
use Rattle.algebra.specs.Theorems.{coefficient}
use Rattle.mending.specs.Plans.{weight_in}
use Rattle.mending.proofs.plans.Plan.through_lost.Given as goal

abbrev pub invariant-loop-b : goal.invariant-loop-b
invariant-loop-b g l =
    let F = g.F.Field.algebra in
    l.i < 4 → ((b : ℕ) → b < l.self.choice.lost.count → (get_or l.self.choice.lost.at b 0 < 64) × (4 + get_or l.self.choice.lost.at b 0 < F.size))
    → g.F.Field.meaning l.sum ≡ sum_to F l.b (λ b. F.mul (coefficient F l.i (get_or l.self.choice.lost.at b 0)) (weight_in F l.self.weights l.row b))
