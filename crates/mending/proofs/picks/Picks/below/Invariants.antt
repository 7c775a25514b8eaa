use Rattle.std.proofs.Common.{◌≡◌, ◌≤◌, ℕ, Bool, length}
use Rattle.mending.specs.Picked.{Answers}
use Rattle.mending.proofs.Picking.{Picking}
use Rattle.mending.proofs.picks.Picks.below.Given as goal

abbrev pub invariant-loop-i : goal.invariant-loop-i
invariant-loop-i g l = record {
  length_kept : length l.at ≡ 4;
  few : l.count ≤ 4;
  picking : (passes : ℕ → Bool) → Answers (goal.T-post g l.test) l.bound passes → Picking passes l.i l.at l.count;
}
