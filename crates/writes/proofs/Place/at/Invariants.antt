use Rattle.std.proofs.Common.{◌≡◌}
use Rattle.writes.proofs.Place.at.Given as goal

abbrev pub invariant-loop-place : goal.invariant-loop-place
invariant-loop-place g l = (l.place.index ≡ l._place) × (l.place.sizes ≡ l.fn.sizes)
