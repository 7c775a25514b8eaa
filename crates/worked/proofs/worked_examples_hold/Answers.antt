use Rattle.std.proofs.Common.{rules}
use Rattle.worked.proofs.Computing.{computing}
use Rattle.worked.proofs.worked_examples_hold.Goals as goal

pub returns : goal.returns
unfolding computing
returns c = search rules
