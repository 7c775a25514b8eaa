use Rattle.std.proofs.Common.{arith}
use Rattle.std.proofs.lemmas.Grind.{common_steps}
use Rattle.rows.specs.Weights.{element_of}
use Rattle.rows.proofs.element.Goals as goal

pub returns-clause-either : goal.returns-clause-either
unfolding element_of
returns-clause-either g c = grind (arith, common_steps)
