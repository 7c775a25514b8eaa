-- The powers of a root differ as far as none of them is one.
use Rattle.std.proofs.Common.{◌≡◌, ℕ, zero, suc, ◌<◌, ◌≢◌, sym, refl, ap, ◌∙◌}
use Rattle.algebra.specs.Algebra.{Distinct, power_by}
use Rattle.algebra.specs.Arithmetic.{Arithmetic, field_of, value_power, value_one}
use Rattle.algebra.specs.Below.{same_below}
use Rattle.algebra.proofs.Computed.{iterate, iterate_suc}
use Rattle.algebra.proofs.Powers.{powers_distinct}

pub power_iterate : (times : ℕ → ℕ → ℕ) (x k : ℕ) → power_by 1 times x k ≡ iterate (times x) k 1
power_iterate times x zero = refl
power_iterate times x (suc k) = ap (times x) (power_iterate times x k) ∙ iterate_suc (times x) k 1

module _ {n : ℕ} (N : Arithmetic n) where
  pub reaches : (reach : ℕ) → ((k : ℕ) → 0 < k → k < reach → iterate (N.times N.root) k 1 ≢ 1) → Distinct reach (power_by 1 N.times N.root)
  reaches reach order i j h k ne e =
      powers_distinct (field_of N) (field_of N).α (field_of N).α_nonzero reach
      (λ l more less is. order l more less (sym (power_iterate N.times N.root l) ∙ sym (value_power N l) ∙ ap (λ x. x.value) is ∙ value_one N))
      i j h k ne (same_below _ _ (value_power N i ∙ e ∙ sym (value_power N j)))
