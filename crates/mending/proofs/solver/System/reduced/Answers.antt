use Rattle.std.proofs.Common.{◌∙◌, rules}
use Rattle.mending.proofs.solver.System.reduced.Goals as goal

pub returns-clause-here : goal.returns-clause-here
returns-clause-here g c i l h = let w = c.after.ensures.here i l h in w.2 ∙ search rules
