-- What numbers modulo 65,537 owe as a field, beyond what holds modulo every prime. Nothing here has to be believed.
use Rattle.std.specs.Prelude.{◌*◌, ◌%◌, T}
use Rattle.algebra.proofs.Computed.{never_one}

-- the powers of 3 from the first to the 4,095th are not one
pub powers_walk : T (never_one (λ b. 3 * b % 65537) 4095 (3 * 1 % 65537))
powers_walk = tt
