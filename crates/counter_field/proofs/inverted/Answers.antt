use Rattle.std.proofs.Common.{arith}
use Rattle.algebra.proofs.Modulars.{next_remainder, inverse_found, prime_65537}
use Rattle.counter_field.proofs.inverted.Goals as goal

pub loop-rest-preserved : goal.loop-rest-preserved
loop-rest-preserved c = grind (arith, next_remainder, prime_65537)

pub returns-clause-value : goal.returns-clause-value
returns-clause-value c = grind (arith, inverse_found 65537 prime_65537)
