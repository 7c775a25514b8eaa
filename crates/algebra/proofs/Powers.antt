-- Powers, and when they are all different.
use Rattle.std.proofs.Common.{◌≡◌, ℕ, zero, suc, ◌+◌, ◌-◌, ◌<◌, ◌≢◌, sym, refl, ap, ◌∙◌, suc-add, zero-add, arith}
use native.Mathlib.Decide.{dec_lt}
use Rattle.algebra.specs.Algebra.{Field, power, Distinct}
use Rattle.algebra.proofs.Ring.{ring, one-mul, mul-one, mul_assoc, mul_cancel, factor_zero}

module _ {A : Type 0} (F : Field A) where
  infixl 70 ◌⊙◌
  open F use {zer as 𝟘, one as 𝟙, mul as ◌⊙◌}

  pub power_one : (n : ℕ) → power F 𝟙 n ≡ 𝟙
  power_one zero = refl
  power_one (suc n) = one-mul F _ ∙ power_one n

  pub power_mul : (x y : A) (n : ℕ) → power F (x ⊙ y) n ≡ power F x n ⊙ power F y n
  power_mul x y zero = simp ring
  power_mul x y (suc n) = simp (power_mul x y n, ring)

  pub power_power : (x : A) (m n : ℕ) → power F (power F x m) n ≡ power F (power F x n) m
  power_power x zero n = power_one n
  power_power x (suc m) n = power_mul x (power F x m) n ∙ ap (λ y. power F x n ⊙ y) (power_power x m n)

  pub power_add : (x : A) (m n : ℕ) → power F x (m + n) ≡ power F x m ⊙ power F x n
  power_add x zero n = rw (zero-add n) (sym (one-mul F _))
  power_add x (suc m) n = rw (suc-add m n) (ap (λ y. x ⊙ y) (power_add x m n) ∙ sym (mul_assoc F _ _ _))

  pub power_nonzero : (x : A) → x ≢ 𝟘 → (n : ℕ) → power F x n ≢ 𝟘
  power_nonzero x h zero e = F.one_nonzero e
  power_nonzero x h (suc n) e = power_nonzero x h n (factor_zero F x _ h e)

  -- If no power of x before the n-th is 1, they are all different.
  pub powers_distinct : (x : A) → x ≢ 𝟘 → (n : ℕ) → ((k : ℕ) → 0 < k → k < n → power F x k ≢ 𝟙) → Distinct n (power F x)
  powers_distinct x h n never i j l m ne e =
      let apart : (i j : ℕ) → i < j → j < n → power F x i ≢ power F x j = λ i j l m e.
      let s : i + (j - i) ≡ j = omega arith in
      never (j - i) (omega arith) (omega arith)
      (mul_cancel F (power F x i) _ _ (power_nonzero x h i) (sym (power_add x i (j - i)) ∙ ap (power F x) s ∙ sym e ∙ sym (mul-one F _))) in
      elim (dec_lt i j) [ yes less ↦ apart i j less m e | no more ↦ apart j i (omega arith) l (sym e) ]
