-- The counter field: whole numbers modulo the prime 65,537, α = 3 and the reach is 4,096.
use Rattle.std.specs.Prelude.{ℕ, ◌+◌, ◌-◌, ◌*◌, ◌%◌, cond, ◌==◌}
use Rattle.std.proofs.Common.{ap, ◌∙◌, add_comm, add-zero, mul_comm, mul-one, mod-lt, mod-eq_of_lt, lit<}
use Rattle.std.proofs.Math.Nat.{le_refl, suc-ne-zero, not-suc-le-zero}
use Rattle.algebra.specs.Algebra.{Field}
use Rattle.algebra.specs.Arithmetic.{Arithmetic, with_reach, field_of, element}
use Rattle.algebra.specs.Below.{Below}
use Rattle.algebra.specs.Modular.{modular_inverse}
use Rattle.algebra.proofs.Computed.{no_return}
use Rattle.algebra.proofs.Modulars.{plus_assoc, plus_negative, times_assoc, times_plus, inverse_small, inverse_zero, inverse_right, prime_65537}
use Rattle.algebra.proofs.Reach.{reaches}
use Rattle.counter_field.specs.Laws.{powers_walk}
use Rattle.counter_field.specs.declared.Counter.{Counter}
use Rattle.counter_field.specs.declared.Counter.TheVariants.{Low, Top}

-- numbers modulo 65,537, with no reach yet
abbrev pub counters : Arithmetic 65537
counters = record {
  plus = λ a b. (a + b) % 65537;
  negative = λ a. (65537 - a) % 65537;
  times = λ a b. a * b % 65537;
  inverse = modular_inverse 65537;
  root = 3;
  reach = 0;
  two = lit< tt;
  plus_small = λ a b h k. mod-lt (a + b) (lit< tt);
  negative_small = λ a h. mod-lt (65537 - a) (lit< tt);
  times_small = λ a b h k. mod-lt (a * b) (lit< tt);
  inverse_small = λ a h. inverse_small 65537 a a h;
  plus_assoc = λ a b c h k l. plus_assoc 65537 a b c;
  plus_comm = λ a b h k. ap (λ v. v % 65537) (add_comm a b);
  plus_zero = λ a h. ap (λ v. v % 65537) (add-zero a) ∙ mod-eq_of_lt h;
  plus_negative = λ a h. plus_negative 65537 a h;
  times_assoc = λ a b c h k l. times_assoc 65537 a b c;
  times_comm = λ a b h k. ap (λ v. v % 65537) (mul_comm a b);
  times_one = λ a h. ap (λ v. v % 65537) (mul-one a) ∙ mod-eq_of_lt h;
  times_plus = λ a b c h k l. times_plus 65537 a b c;
  inverse_zero = inverse_zero 65537;
  times_inverse = λ a h ne. inverse_right 65537 prime_65537 a a (le_refl a) h ne;
  root_small = lit< tt;
  root_nonzero = suc-ne-zero 2;
  root_powers = λ i j h. absurd (not-suc-le-zero h);
}

abbrev pub counter_arithmetic : Arithmetic 65537
counter_arithmetic = with_reach counters 4096 (reaches counters 4096 (no_return (λ b. 3 * b % 65537) 4095 powers_walk))

abbrev pub counter_algebra : Field (Below 65537)
counter_algebra = field_of counter_arithmetic

-- the number of a symbol: a 16-bit number's own, or 65,536
abbrev pub counter_number : Counter → ℕ
counter_number (Low v) = v
counter_number Top = 65536

-- the element that a symbol stands for
abbrev pub counter_meaning : Counter → Below 65537
counter_meaning c = element counter_arithmetic (counter_number c)

-- the symbol of a number
abbrev pub counter_symbol : ℕ → Counter
counter_symbol v = cond (v == 65536) Top (Low v)
