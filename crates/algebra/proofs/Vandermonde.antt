-- Which changes signatures find: sums of powers at different points, one place removed after the other.
use Rattle.std.proofs.Common.{◌≡◌, ℕ, suc, ◌<◌, ◌≤◌, ◌≢◌, ◌⊎◌, List, [], ◌∷◌, length, sym, ap, ◌∙◌, inl, inr, arith}
use mathlib.Core.Path.{fun_ext}
use mathlib.Core.List.Memᴰ.{head as here}
use mathlib.Core.List.Memᴰ.{not-nil as none_in}
use mathlib.Core.List.Memᴰ.{tail as later}
use mathlib.Core.List.{Memᴰ as In}
use native.Mathlib.Decide.{dec_lt, ℕ_discrete}
use Rattle.algebra.specs.Algebra.{Field, power, Distinct}
use Rattle.algebra.proofs.Ring.{ring, add-neg, sub-add, sub-zero, zero-mul, mul-zero, factor_zero, sub_nonzero, add-zero}
use Rattle.algebra.proofs.Powers.{power_power}
use Rattle.algebra.specs.Sum.{sum_to}
use Rattle.algebra.specs.Theorems.{SignaturesFindChanges}
use Rattle.algebra.proofs.Sums.{sum_mul, sum-add, sum_one, sum_same}

-- one place less to look at
narrowed : {P Q : Type 0} {i t : ℕ} {ps : List ℕ} → P ⊎ In i (t ∷ ps) → (P → Q) → (i ≡ t → Q) → Q ⊎ In i ps
narrowed (inl p) f g = inl (f p)
narrowed (inr (here e)) f g = inl (g e)
narrowed (inr (later m)) f g = inr m

module _ {A : Type 0} (F : Field A) where
  infixl 60 ◌⊕◌
  infixl 70 ◌⊙◌
  open F use {zer as 𝟘, one as 𝟙, add as ◌⊕◌, mul as ◌⊙◌, neg}

  -- the sum of δ weighted by the c-th powers of the points x
  abbrev pub moment : ℕ → (ℕ → A) → (ℕ → A) → ℕ → A
  moment n x δ c = sum_to F n λ i. power F (x i) c ⊙ δ i

  -- δ with the place of the point l removed
  abbrev pub without : A → (ℕ → A) → (ℕ → A) → ℕ → A
  without l x δ i = (x i ⊕ neg l) ⊙ δ i

  collected : (p d l e : A) → p ⊙ (d ⊙ e) ⊕ l ⊙ (p ⊙ e) ≡ (d ⊕ l) ⊙ p ⊙ e
  collected p d l e = simp ring

  removed : (n : ℕ) (x δ : ℕ → A) (l : A) (c : ℕ) → moment n x (without l x δ) c ⊕ l ⊙ moment n x δ c ≡ moment n x δ (suc c)
  removed n x δ l c =
      rw (← (sum_mul F n l λ i. power F (x i) c ⊙ δ i)) (sym (sum-add F n _ _))
      ∙ ap (sum_to F n) (fun_ext λ i. rw (sub-add F (x i) l) at (collected (power F (x i) c) (x i ⊕ neg l) l (δ i)))

  -- If nothing is left without the place t, nothing was there but at t, and the sum shows that.
  alone : (n : ℕ) (x : ℕ → A) → Distinct n x → (t : ℕ) → t < n → (δ : ℕ → A)
      → ((i : ℕ) → i < n → without (x t) x δ i ≡ 𝟘) → moment n x δ 0 ≡ 𝟘 → (i : ℕ) → i < n → δ i ≡ 𝟘
  alone n x dis t inside δ left sum i h = elim (ℕ_discrete i t) [ yes e ↦ rw e (factor_zero F 𝟙 (δ t) F.one_nonzero at_t) | no ne ↦ other i h ne ]
    where
      other : (j : ℕ) → j < n → j ≢ t → δ j ≡ 𝟘
      other j k ne = factor_zero F _ _ (sub_nonzero F _ _ (dis j t k inside ne)) (left j k)

      at_t : 𝟙 ⊙ δ t ≡ 𝟘
      at_t = sym (sum_one F n (λ j. 𝟙 ⊙ δ j) t inside λ j k ne. rw (other j k ne) (mul-zero F 𝟙)) ∙ sum

  -- δ is zero at each place below n that is not in ps: as many moments as ps has places show that it is zero there too.
  pub detect : (n : ℕ) (x : ℕ → A) → Distinct n x → (ps : List ℕ) (δ : ℕ → A)
      → ((i : ℕ) → i < n → (δ i ≡ 𝟘) ⊎ In i ps)
      → ((c : ℕ) → c < length ps → moment n x δ c ≡ 𝟘)
      → (i : ℕ) → i < n → δ i ≡ 𝟘
  detect n x dis [] δ off sig i h = elim (off i h) [ inl e ↦ e | inr m ↦ absurd (none_in m) ]
  detect n x dis (t ∷ ps) δ off sig i h =
      elim (dec_lt t n) [
        | yes inside ↦ alone n x dis t inside δ (detect n x dis ps (without (x t) x δ) off₁ sig₁) (sig 0 (omega arith)) i h
        | no out ↦ detect n x dis ps δ (off₂ out) sig₂ i h
      ]
    where
      off₁ : (j : ℕ) → j < n → (without (x t) x δ j ≡ 𝟘) ⊎ In j ps
      off₁ j k = narrowed (off j k) (λ e. simp (without, e, mul-zero)) (λ e. simp (without, e, add-neg, zero-mul))

      sig₁ : (c : ℕ) → c < length ps → moment n x (without (x t) x δ) c ≡ 𝟘
      sig₁ c k = rw (sig c (omega arith), sig (suc c) (omega arith), mul-zero, add-zero) at (removed n x δ (x t) c)

      off₂ : (t < n → ⊥) → (j : ℕ) → j < n → (δ j ≡ 𝟘) ⊎ In j ps
      off₂ out j k = narrowed (off j k) (λ e. e) (λ e. absurd (omega arith))

      sig₂ : (c : ℕ) → c < length ps → moment n x δ c ≡ 𝟘
      sig₂ c k = sig c (omega arith)

  -- Two blocks of n symbols that differ at no more than m places, those of ps, and have the same m moments are equal.
  pub same_block : (n : ℕ) (α : A) → Distinct n (power F α) → (m : ℕ) (ps : List ℕ) → length ps ≤ m → (f g : ℕ → A)
      → ((i : ℕ) → i < n → (f i ≡ g i) ⊎ In i ps)
      → ((c : ℕ) → c < m → sum_to F n (λ i. power F (power F α c) i ⊙ f i) ≡ sum_to F n (λ i. power F (power F α c) i ⊙ g i))
      → (i : ℕ) → i < n → f i ≡ g i
  same_block n α dis m ps few f g off same i h = sub-zero F _ _ (detect n (power F α) dis ps (λ j. f j ⊕ neg (g j)) off' sig i h)
    where
      off' : (j : ℕ) → j < n → (f j ⊕ neg (g j) ≡ 𝟘) ⊎ In j ps
      off' j k = elim (off j k) [ inl e ↦ inl (rw e (add-neg F (g j))) | inr p ↦ inr p ]

      sig : (c : ℕ) → c < length ps → moment n (power F α) (λ j. f j ⊕ neg (g j)) c ≡ 𝟘
      sig c k = sum_same F n (λ j. power F (power F α j) c) f g (simp (power_power F α c) at (same c (omega arith)))

  pub signatures_find_changes : SignaturesFindChanges F
  signatures_find_changes n m reached f g places few off same =
      same_block n F.α (λ i j h k. F.α_powers i j (omega arith) (omega arith)) m places few f g off same
