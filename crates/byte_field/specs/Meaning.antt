-- The byte field: q = 256, the number is the byte, sum is XOR, α = 2 and the reach is 255.
use Rattle.std.proofs.Common.{◌∙◌, lit<}
use Rattle.std.proofs.Math.Nat.{min-eq_right, pos_of_ne-zero, suc-ne-zero, not-suc-le-zero}
use Rattle.std.specs.Prelude.{ℕ}
use Rattle.std.specs.Int.Bits.{bit_xor, xor_assoc, xor_self, xor_zero_r}
use Rattle.std.proofs.lemmas.Nat.{xor_comm, xor_lt}
use Rattle.algebra.specs.Algebra.{Field}
use Rattle.algebra.specs.Arithmetic.{Arithmetic, with_reach, field_of, element}
use Rattle.algebra.specs.Below.{Below}
use Rattle.algebra.proofs.Computed.{no_return}
use Rattle.algebra.proofs.Reach.{reaches}
use Rattle.byte_field.specs.Laws.{·_comm, ·_assoc, ·_one, ·_small, ·_xor, ·_inverse, inverse_small, inverse_zero, powers_walk}
use Rattle.byte_field.specs.Product.{◌·◌, inverse}
use Rattle.byte_field.specs.declared.Byte.{Byte}

-- bytes, with no reach yet
abbrev pub bytes : Arithmetic 256
bytes = record {
  plus = bit_xor;
  negative = λ a. a;
  times = ◌·◌;
  inverse = inverse;
  root = 2;
  reach = 0;
  two = lit< tt;
  plus_small = xor_lt 8;
  negative_small = λ a h. h;
  times_small = ·_small;
  inverse_small = inverse_small;
  plus_assoc = λ a b c h k l. xor_assoc a b c;
  plus_comm = λ a b h k. xor_comm a b;
  plus_zero = λ a h. xor_zero_r a;
  plus_negative = λ a h. xor_self a;
  times_assoc = ·_assoc;
  times_comm = ·_comm;
  times_one = ·_one;
  times_plus = λ a b c h k l. ·_xor a b c;
  inverse_zero = inverse_zero;
  times_inverse = λ a h ne. ·_inverse a h ∙ min-eq_right (pos_of_ne-zero ne);
  root_small = lit< tt;
  root_nonzero = suc-ne-zero 1;
  root_powers = λ i j h. absurd (not-suc-le-zero h);
}

abbrev pub byte_arithmetic : Arithmetic 256
byte_arithmetic = with_reach bytes 255 (reaches bytes 255 (no_return (◌·◌ 2) 254 powers_walk))

abbrev pub byte_algebra : Field (Below 256)
byte_algebra = field_of byte_arithmetic

-- the element that a byte stands for
abbrev pub byte_meaning : Byte → Below 256
byte_meaning b = element byte_arithmetic b.0

-- the byte of a number
abbrev pub byte_symbol : ℕ → Byte
byte_symbol v = record { 0 = v }
