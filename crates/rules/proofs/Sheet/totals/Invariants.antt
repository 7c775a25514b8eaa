use Rattle.std.proofs.Common.{◌≡◌, not}
use Rattle.rules.specs.Search.{counted}
use Rattle.rules.specs.Updates.{entry_at}
use Rattle.rules.specs.Updates.{entry_sound}
use Rattle.rules.proofs.Sheet.totals.Given as goal

abbrev pub invariant-loop-row : goal.invariant-loop-row
invariant-loop-row l =
    (l.totals.0 ≡ counted l.row (λ r. entry_sound (entry_at l.self r)))
    × (l.totals.1 ≡ counted l.row (λ r. not (entry_sound (entry_at l.self r))))
