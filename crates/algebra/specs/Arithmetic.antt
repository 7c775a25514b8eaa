-- A field whose elements are the numbers below n, from operations on numbers.
use Rattle.std.specs.Prelude.{◌≡◌, ℕ, zero, suc, ◌<◌, ◌≤◌, ◌≢◌, refl}
use Rattle.std.proofs.Common.{sym, ap, ap₂, ◌∙◌, mod-eq_of_lt, lit<}
use Rattle.std.proofs.Math.Nat.{lt_of_le_of_lt, lt_trans, suc-ne-zero}
use Rattle.algebra.specs.Algebra.{Field, power_by, Distinct}
use Rattle.algebra.specs.Below.{Below, below, same_below}

-- operations on numbers that make those below n a field
pub record Arithmetic (n : ℕ) : Type 0 where
  pub plus : ℕ → ℕ → ℕ
  pub negative : ℕ → ℕ
  pub times : ℕ → ℕ → ℕ
  pub inverse : ℕ → ℕ
  pub root : ℕ
  pub reach : ℕ
  pub two : 1 < n
  pub plus_small : (a b : ℕ) → a < n → b < n → plus a b < n
  pub negative_small : (a : ℕ) → a < n → negative a < n
  pub times_small : (a b : ℕ) → a < n → b < n → times a b < n
  pub inverse_small : (a : ℕ) → a < n → inverse a < n
  pub plus_assoc : (a b c : ℕ) → a < n → b < n → c < n → plus (plus a b) c ≡ plus a (plus b c)
  pub plus_comm : (a b : ℕ) → a < n → b < n → plus a b ≡ plus b a
  pub plus_zero : (a : ℕ) → a < n → plus a 0 ≡ a
  pub plus_negative : (a : ℕ) → a < n → plus a (negative a) ≡ 0
  pub times_assoc : (a b c : ℕ) → a < n → b < n → c < n → times (times a b) c ≡ times a (times b c)
  pub times_comm : (a b : ℕ) → a < n → b < n → times a b ≡ times b a
  pub times_one : (a : ℕ) → a < n → times a 1 ≡ a
  pub times_plus : (a b c : ℕ) → a < n → b < n → c < n → times a (plus b c) ≡ plus (times a b) (times a c)
  pub inverse_zero : inverse 0 ≡ 0
  pub times_inverse : (a : ℕ) → a < n → a ≢ 0 → times a (inverse a) ≡ 1
  pub root_small : root < n
  pub root_nonzero : root ≢ 0
  pub root_powers : Distinct reach (power_by 1 times root)

-- the same operations with another reach
abbrev pub with_reach : {n : ℕ} (N : Arithmetic n) (reach : ℕ) → Distinct reach (power_by 1 N.times N.root) → Arithmetic n
with_reach N reach distinct = record {
  plus = N.plus;
  negative = N.negative;
  times = N.times;
  inverse = N.inverse;
  root = N.root;
  reach = reach;
  two = N.two;
  plus_small = N.plus_small;
  negative_small = N.negative_small;
  times_small = N.times_small;
  inverse_small = N.inverse_small;
  plus_assoc = N.plus_assoc;
  plus_comm = N.plus_comm;
  plus_zero = N.plus_zero;
  plus_negative = N.plus_negative;
  times_assoc = N.times_assoc;
  times_comm = N.times_comm;
  times_one = N.times_one;
  times_plus = N.times_plus;
  inverse_zero = N.inverse_zero;
  times_inverse = N.times_inverse;
  root_small = N.root_small;
  root_nonzero = N.root_nonzero;
  root_powers = distinct;
}

module _ {n : ℕ} (N : Arithmetic n) where
  open N use {plus, negative, times, inverse}

  pub positive : 0 < n
  positive = lt_trans (lit< tt) N.two

  abbrev pub element : ℕ → Below n
  element = below n positive

  pub value_small : (v : ℕ) → v < n → (element v).value ≡ v
  value_small v h = mod-eq_of_lt h

  pub value_01 : (v : ℕ) → v ≤ 1 → (element v).value ≡ v
  value_01 v h = value_small v (lt_of_le_of_lt h N.two)

  pub value_zero : (element 0).value ≡ 0
  value_zero = value_small 0 positive

  pub value_one : (element 1).value ≡ 1
  value_one = value_small 1 N.two

  pub element_value : (x : Below n) → element x.value ≡ x
  element_value x = same_below _ x (mod-eq_of_lt x.small)

  pub value_plus : (x y : Below n) → (element (plus x.value y.value)).value ≡ plus x.value y.value
  value_plus x y = value_small _ (N.plus_small _ _ x.small y.small)

  pub value_times : (x y : Below n) → (element (times x.value y.value)).value ≡ times x.value y.value
  value_times x y = value_small _ (N.times_small _ _ x.small y.small)

  pub value_power : (k : ℕ) → (power_by (element 1) (λ x y. element (times x.value y.value)) (element N.root) k).value ≡ power_by 1 times N.root k
  value_power zero = value_one
  value_power (suc k) = value_times (element N.root) (power_by (element 1) (λ x y. element (times x.value y.value)) (element N.root) k) ∙ ap₂ times (value_small N.root N.root_small) (value_power k)

  -- an element is its number, and every operation works on the numbers
  abbrev pub field_of : Field (Below n)
  field_of = record {
    zer = element 0;
    one = element 1;
    add = λ x y. element (plus x.value y.value);
    neg = λ x. element (negative x.value);
    mul = λ x y. element (times x.value y.value);
    inv = λ x. element (inverse x.value);
    α = element N.root;
    size = n;
    reach = N.reach;
    number = λ x. x.value;
    element = element;
    add_assoc = λ x y z. ap element (ap (λ v. plus v z.value) (value_plus x y) ∙ N.plus_assoc _ _ _ x.small y.small z.small ∙ ap (plus x.value) (sym (value_plus y z)));
    add_comm = λ x y. ap element (N.plus_comm _ _ x.small y.small);
    add-zero = λ x. ap element (ap (plus x.value) value_zero ∙ N.plus_zero _ x.small) ∙ element_value x;
    add-neg = λ x. ap element (ap (plus x.value) (value_small _ (N.negative_small _ x.small)) ∙ N.plus_negative _ x.small);
    mul_assoc = λ x y z. ap element (ap (λ v. times v z.value) (value_times x y) ∙ N.times_assoc _ _ _ x.small y.small z.small ∙ ap (times x.value) (sym (value_times y z)));
    mul_comm = λ x y. ap element (N.times_comm _ _ x.small y.small);
    mul-one = λ x. ap element (ap (times x.value) value_one ∙ N.times_one _ x.small) ∙ element_value x;
    mul-add = λ x y z. ap element (ap (times x.value) (value_plus y z) ∙ N.times_plus _ _ _ x.small y.small z.small ∙ ap₂ plus (sym (value_times x y)) (sym (value_times x z)));
    one_nonzero = λ e. suc-ne-zero 0 (sym value_one ∙ ap (λ x. x.value) e ∙ value_zero);
    inv-zero = ap element (ap inverse value_zero ∙ N.inverse_zero);
    mul-inv = λ x h. ap element (ap (times x.value) (value_small _ (N.inverse_small _ x.small)) ∙ N.times_inverse _ x.small (λ e. h (sym (element_value x) ∙ ap element e)));
    number_bound = λ x. x.small;
    element_number = element_value;
    number_element = value_small;
    element_zero = refl;
    element_one = refl;
    α_nonzero = λ e. N.root_nonzero (sym (value_small _ N.root_small) ∙ ap (λ x. x.value) e ∙ value_zero);
    α_powers = λ i j h k ne e. N.root_powers i j h k ne (sym (value_power i) ∙ ap (λ x. x.value) e ∙ value_power j);
  }
