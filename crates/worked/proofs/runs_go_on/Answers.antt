use Rattle.rules.proofs.Going.{goes_on}
use Rattle.worked.proofs.runs_go_on.Goals as goal

pub returns : goal.returns
returns c q F = goes_on F
