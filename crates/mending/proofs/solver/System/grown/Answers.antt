use Rattle.std.proofs.Common.{◌∙◌, rules}
use Rattle.mending.proofs.solver.System.grown.Goals as goal

pub returns-clause-here : goal.returns-clause-here
returns-clause-here g c j l h = let w = c.after.ensures.here j l h in w.2 ∙ search rules
