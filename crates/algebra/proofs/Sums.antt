-- What is true of finite sums: linearity, exchange, and one changed summand.
use Rattle.std.proofs.Common.{◌≡◌, ℕ, zero, suc, ◌<◌, ◌≢◌, sym, refl, ap, ◌∙◌, ap₂, arith}
use mathlib.Core.Path.{fun_ext}
use native.Mathlib.Decide.{ℕ_discrete}
use Rattle.algebra.specs.Algebra.{Field}
use Rattle.algebra.specs.Sum.{sum_to}
use Rattle.algebra.proofs.Ring.{ring, add_assoc, add_right_comm, add_cancel, sub-add, zero-add, mul-add}

module _ {A : Type 0} (F : Field A) where
  infixl 60 ◌⊕◌
  infixl 70 ◌⊙◌
  open F use {zer as 𝟘, one as 𝟙, add as ◌⊕◌, mul as ◌⊙◌, neg}

  pub sum-zero : (n : ℕ) → sum_to F n (λ _. 𝟘) ≡ 𝟘
  sum-zero zero = refl
  sum-zero (suc n) = simp (sum-zero n, ring)

  pub sum-add : (n : ℕ) (f g : ℕ → A) → sum_to F n (λ i. f i ⊕ g i) ≡ sum_to F n f ⊕ sum_to F n g
  sum-add zero f g = simp ring
  sum-add (suc n) f g = simp (sum-add n f g, ring)

  pub sum_mul : (n : ℕ) (k : A) (f : ℕ → A) → sum_to F n (λ i. k ⊙ f i) ≡ k ⊙ sum_to F n f
  sum_mul zero k f = simp ring
  sum_mul (suc n) k f = simp (sum_mul n k f, ring)

  pub sum_first : (n : ℕ) (f : ℕ → A) → sum_to F (suc n) f ≡ f 0 ⊕ sum_to F n (λ i. f (suc i))
  sum_first zero f = simp ring
  sum_first (suc n) f = ap (λ s. s ⊕ f (suc n)) (sum_first n f) ∙ add_assoc F _ _ _

  pub sum_exchange : (m n : ℕ) (f : ℕ → ℕ → A) → sum_to F m (λ i. sum_to F n (f i)) ≡ sum_to F n (λ j. sum_to F m (λ i. f i j))
  sum_exchange zero n f = sym (sum-zero n)
  sum_exchange (suc m) n f = ap (λ s. s ⊕ sum_to F n (f m)) (sum_exchange m n f) ∙ sym (sum-add n (λ j. sum_to F m (λ i. f i j)) (f m))

  pub sum_below : (n : ℕ) (f g : ℕ → A) → ((i : ℕ) → i < n → f i ≡ g i) → sum_to F n f ≡ sum_to F n g
  sum_below zero f g e = refl
  sum_below (suc n) f g e = ap₂ (λ s x. s ⊕ x) (sum_below n f g (λ i h. e i (omega arith))) (e n (omega arith))

  -- One index changed: the sum changes by the difference.
  pub sum_update : (n : ℕ) (f g : ℕ → A) (t : ℕ) → t < n → ((i : ℕ) → i < n → i ≢ t → f i ≡ g i) → sum_to F n f ⊕ g t ≡ sum_to F n g ⊕ f t
  sum_update zero f g t h e = absurd (omega arith)
  sum_update (suc n) f g t h e =
      elim (ℕ_discrete n t) [
        | yes here ↦ simp (sum_below n f g λ i k. e i (omega arith) (omega arith), ← here, ring)
        | no there ↦ add_right_comm F _ _ _ ∙ ap₂ ◌⊕◌ (sum_update n f g t (omega arith) λ i k. e i (omega arith)) (e n (omega arith) there) ∙ add_right_comm F _ _ _
      ]

  pub sum_one : (n : ℕ) (f : ℕ → A) (t : ℕ) → t < n → ((i : ℕ) → i < n → i ≢ t → f i ≡ 𝟘) → sum_to F n f ≡ f t
  sum_one n f t h e = simp (sum-zero n, ring) at (sum_update n f (λ _. 𝟘) t h e)

  -- Equal sums with weights w: the differences sum to zero.
  pub sum_same : (n : ℕ) (w f g : ℕ → A) → sum_to F n (λ i. w i ⊙ f i) ≡ sum_to F n (λ i. w i ⊙ g i) → sum_to F n (λ i. w i ⊙ (f i ⊕ neg (g i))) ≡ 𝟘
  sum_same n w f g e =
      add_cancel F _ _ (sum_to F n λ i. w i ⊙ g i)
      (sym (sum-add n _ _) ∙ ap (sum_to F n) (fun_ext λ i. sym (mul-add F _ _ _) ∙ rw (sub-add F (f i) (g i))) ∙ e ∙ sym (zero-add F _))
