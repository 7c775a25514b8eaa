use Rattle.algebra.proofs.Vandermonde.{signatures_find_changes}
use Rattle.algebra.proofs.signatures_find_changes.Goals as goal

pub returns : goal.returns
returns c = λ q F. signatures_find_changes F
