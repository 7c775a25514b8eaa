-- A field: its operations, the numbering of its elements, the element α with its reach, and the laws of all these.
use Rattle.std.specs.Prelude.{◌≡◌, ℕ, zero, suc, ◌<◌, cond, ◌≢◌, Some, None, Option, nat_lt}

-- x multiplied k times, by a product of any kind
abbrev pub power_by : {A : Type 0} → A → (A → A → A) → A → ℕ → A
power_by one mul x zero = one
power_by one mul x (suc k) = mul x (power_by one mul x k)

-- x 0, .., x (n - 1) are pairwise different
abbrev pub Distinct : {A : Type 0} → ℕ → (ℕ → A) → Type 0
Distinct n x = (i j : ℕ) → i < n → j < n → i ≢ j → x i ≢ x j

-- size is the number of elements; the first reach powers of α are known to differ
pub record Field (A : Type 0) : Type 0 where
  pub zer : A
  pub one : A
  pub add : A → A → A
  pub neg : A → A
  pub mul : A → A → A
  pub inv : A → A
  pub α : A
  pub size : ℕ
  pub reach : ℕ
  pub number : A → ℕ
  pub element : ℕ → A
  pub add_assoc : (x y z : A) → add (add x y) z ≡ add x (add y z)
  pub add_comm : (x y : A) → add x y ≡ add y x
  pub add-zero : (x : A) → add x zer ≡ x
  pub add-neg : (x : A) → add x (neg x) ≡ zer
  pub mul_assoc : (x y z : A) → mul (mul x y) z ≡ mul x (mul y z)
  pub mul_comm : (x y : A) → mul x y ≡ mul y x
  pub mul-one : (x : A) → mul x one ≡ x
  pub mul-add : (x y z : A) → mul x (add y z) ≡ add (mul x y) (mul x z)
  pub one_nonzero : one ≢ zer
  pub inv-zero : inv zer ≡ zer
  pub mul-inv : (x : A) → x ≢ zer → mul x (inv x) ≡ one
  pub number_bound : (x : A) → number x < size
  pub element_number : (x : A) → element (number x) ≡ x
  pub number_element : (v : ℕ) → v < size → number (element v) ≡ v
  pub element_zero : element 0 ≡ zer
  pub element_one : element 1 ≡ one
  pub α_nonzero : α ≢ zer
  pub α_powers : Distinct reach (power_by one mul α)

module _ {A : Type 0} (F : Field A) where
  abbrev pub power : A → ℕ → A
  power = power_by F.one F.mul

  abbrev pub minus : A → A → A
  minus x y = F.add x (F.neg y)

  -- e(v), the element of number v, where there is one
  abbrev pub numbered : ℕ → Option A
  numbered v = cond (nat_lt v F.size) (Some (F.element v)) None
