use Rattle.std.proofs.Common.{◌≡◌, ◌*◌, ◌%◌, ◌<◌, ◌≢◌}
use Rattle.counter_field.proofs.inverted.Given as goal

abbrev pub invariant-loop-rest : goal.invariant-loop-rest
invariant-loop-rest l = record {
  factor_small : l.factor < 65537;
  rest_small : l.rest < 65537;
  times_number : l.factor * (l.number % 65537) % 65537 ≡ l.rest;
  nonzero : l.number % 65537 ≢ 0 → l.rest ≢ 0;
}

abbrev pub decreases-loop-rest : goal.decreases-loop-rest
decreases-loop-rest l = l.rest
