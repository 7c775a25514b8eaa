use Rattle.algebra.proofs.Matrix.{exactly_one_solution}
use Rattle.algebra.proofs.exactly_one_solution.Goals as goal

pub returns : goal.returns
returns c = λ q F. exactly_one_solution F
