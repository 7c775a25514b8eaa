-- A Cauchy system has exactly one solution, and the recursion finds it: a row and a column are eliminated.
use Rattle.std.proofs.Common.{◌≡◌, ℕ, zero, suc, ◌<◌, ◌≢◌, sym, refl, ap, ◌∙◌, ap₂, arith}
use Rattle.algebra.specs.Algebra.{Field}
use Rattle.algebra.proofs.Ring.{ring, add_assoc, add_comm, add-neg, add_cancel, zero-add, sub-add, sub-zero, sub_chain, sub_nonzero, add-mul, mul-zero, zero-mul, mul-inv, inv-mul, inv_nonzero, mul_cancel, factor_zero}
use Rattle.algebra.specs.Cauchy.{Points, after, row, grown, reduced, solve}
use Rattle.algebra.proofs.Sums.{sum_first, sum_mul, sum-add, sum_below, sum_one, sum_same}

after_points : {A : Type 0} {r : ℕ} {a b : ℕ → A} → Points (suc r) a b → Points r (after a) (after b)
after_points p = record {
  rows = λ i j h k ne. p.rows (suc i) (suc j) (omega arith) (omega arith) (omega arith);
  columns = λ i j h k ne. p.columns (suc i) (suc j) (omega arith) (omega arith) (omega arith);
  apart = λ i j h k. p.apart (suc i) (suc j) (omega arith) (omega arith);
}

each : (P : ℕ → Type 0) (r : ℕ) → P 0 → ((j : ℕ) → j < r → P (suc j)) → (j : ℕ) → j < suc r → P j
each P r first rest zero h = first
each P r first rest (suc j) h = rest j (omega arith)

module _ {A : Type 0} (F : Field A) where
  infixl 60 ◌⊕◌
  infixl 60 ◌⊖◌
  infixl 70 ◌⊙◌
  open F use {zer as 𝟘, add as ◌⊕◌, mul as ◌⊙◌, neg, inv}

  abbrev ◌⊖◌ : A → A → A
  x ⊖ y = x ⊕ neg y

  -- one summand of `eliminate`, with v = x - b, u = z - b, w = b - l and their inverses
  traded : (v iv u iu w y : A) → ((s : A) → v ⊙ (iv ⊙ s) ≡ s) → ((s : A) → u ⊙ (iu ⊙ s) ≡ s)
      → (v ⊕ w) ⊙ (iv ⊙ y) ⊕ v ⊙ (iv ⊙ (w ⊙ (iu ⊙ y))) ≡ (u ⊕ w) ⊙ (iu ⊙ y) ⊕ u ⊙ (iv ⊙ (w ⊙ (iu ⊙ y)))
  traded v iv u iu w y e f = simp (e, f, ring)

  summand : (x z b l y : A) → x ≢ b → z ≢ b
      → (x ⊖ l) ⊙ (inv (x ⊖ b) ⊙ y) ≡ (z ⊖ l) ⊙ (inv (z ⊖ b) ⊙ y) ⊕ (z ⊖ x) ⊙ (inv (x ⊖ b) ⊙ ((b ⊖ l) ⊙ (inv (z ⊖ b) ⊙ y)))
  summand x z b l y h k =
      add_cancel F _ _ ((x ⊖ b) ⊙ (inv (x ⊖ b) ⊙ ((b ⊖ l) ⊙ (inv (z ⊖ b) ⊙ y))))
      (rw (sub_chain F x b l, sub_chain F z b l) at (traded (x ⊖ b) (inv (x ⊖ b)) (z ⊖ b) (inv (z ⊖ b)) (b ⊖ l) y (mul-inv F _ (sub_nonzero F x b h)) (mul-inv F _ (sub_nonzero F z b k)))
      ∙ rw (add_assoc, ← add-mul, sub_chain F z x b))

  -- what is left of the unknowns y when the row z and the column l are eliminated
  abbrev shrunk : A → A → (ℕ → A) → (ℕ → A) → ℕ → A
  shrunk z l b y j = (b j ⊖ l) ⊙ (inv (z ⊖ b j) ⊙ y j)

  eliminate : (r : ℕ) (b y : ℕ → A) (x z l : A) → ((j : ℕ) → j < r → x ≢ b j) → ((j : ℕ) → j < r → z ≢ b j)
      → (x ⊖ l) ⊙ row F r b y x ≡ (z ⊖ l) ⊙ row F r b y z ⊕ (z ⊖ x) ⊙ row F r b (shrunk z l b y) x
  eliminate r b y x z l h k =
      sym (sum_mul F r _ _) ∙ sum_below F r _ _ (λ j m. summand x z (b j) l (y j) (h j m) (k j m)) ∙ sum-add F r _ _ ∙ ap₂ ◌⊕◌ (sum_mul F r _ _) (sum_mul F r _ _)

  -- Row 0 and column 0 eliminated: a system with one row and one column less.
  module _ (r : ℕ) (a b : ℕ → A) (p : Points (suc r) a b) where
    rows_differ : (i : ℕ) → i < r → a 0 ⊖ a (suc i) ≢ 𝟘
    rows_differ i h = sub_nonzero F _ _ (p.rows 0 (suc i) (omega arith) (omega arith) (omega arith))

    columns_differ : (j : ℕ) → j < r → b (suc j) ⊖ b 0 ≢ 𝟘
    columns_differ j h = sub_nonzero F _ _ (p.columns (suc j) 0 (omega arith) (omega arith) (omega arith))

    cross : (i j : ℕ) → i < suc r → j < suc r → a i ⊖ b j ≢ 𝟘
    cross i j h k = sub_nonzero F _ _ (p.apart i j h k)

    eliminated : (y : ℕ → A) (i : ℕ) → i < r → (a (suc i) ⊖ b 0) ⊙ row F (suc r) b y (a (suc i))
        ≡ (a 0 ⊖ b 0) ⊙ row F (suc r) b y (a 0) ⊕ (a 0 ⊖ a (suc i)) ⊙ row F r (after b) (shrunk (a 0) (b 0) (after b) (after y)) (a (suc i))
    eliminated y i h =
        eliminate (suc r) b y (a (suc i)) (a 0) (b 0) (λ j. p.apart (suc i) j (omega arith)) (λ j. p.apart 0 j (omega arith))
        ∙ ap (λ s. (a 0 ⊖ b 0) ⊙ row F (suc r) b y (a 0) ⊕ (a 0 ⊖ a (suc i)) ⊙ s)
        (sum_first F r (λ j. inv (a (suc i) ⊖ b j) ⊙ shrunk (a 0) (b 0) b y j) ∙ simp (shrunk, add-neg, zero-mul, mul-zero, zero-add))

    module _ (y : ℕ → A) (zeros : (i : ℕ) → i < suc r → row F (suc r) b y (a i) ≡ 𝟘) where
      zeros_left : (i : ℕ) → i < r → row F r (after b) (shrunk (a 0) (b 0) (after b) (after y)) (a (suc i)) ≡ 𝟘
      zeros_left i h =
          factor_zero F _ _ (rows_differ i h) (sym (rw (zeros 0 (omega arith), zeros (suc i) (omega arith), mul-zero F (a 0 ⊖ b 0), mul-zero, zero-add) at (eliminated y i h)))

      rest_zero : ((j : ℕ) → j < r → shrunk (a 0) (b 0) (after b) (after y) j ≡ 𝟘) → (j : ℕ) → j < r → y (suc j) ≡ 𝟘
      rest_zero left j h = factor_zero F _ _ (inv_nonzero F _ (cross 0 (suc j) (omega arith) (omega arith))) (factor_zero F _ _ (columns_differ j h) (left j h))

      first_zero : ((j : ℕ) → j < r → y (suc j) ≡ 𝟘) → y 0 ≡ 𝟘
      first_zero rest = factor_zero F _ _ (inv_nonzero F _ (cross 0 0 (omega arith) (omega arith))) (sym only ∙ zeros 0 (omega arith))
        where
          only : row F (suc r) b y (a 0) ≡ inv (a 0 ⊖ b 0) ⊙ y 0
          only = sum_one F (suc r) (λ j. inv (a 0 ⊖ b j) ⊙ y j) 0 (omega arith) (each _ r (λ ne. absurd (ne refl)) λ j k ne. rw (rest j k) (mul-zero F _))

    module _ (c : ℕ → A) where
      first_solved : row F (suc r) b (solve F (suc r) a b c) (a 0) ≡ c 0
      first_solved = sum_first F r (λ j. inv (a 0 ⊖ b j) ⊙ solve F (suc r) a b c j) ∙ rw (inv-mul F _ (cross 0 0 (omega arith) (omega arith))) (sub-add F _ _)

      shrunk_grown : (w : ℕ → A) (j : ℕ) → j < r → shrunk (a 0) (b 0) (after b) (grown F (a 0) (b 0) (after b) w) j ≡ w j
      shrunk_grown w j h = ap (λ s. (b (suc j) ⊖ b 0) ⊙ s) (inv-mul F _ (cross 0 (suc j) (omega arith) (omega arith)) _) ∙ mul-inv F _ (columns_differ j h) (w j)

      rest_solved : ((i : ℕ) → i < r → row F r (after b) (solve F r (after a) (after b) (reduced F a b c)) (a (suc i)) ≡ reduced F a b c i)
          → (i : ℕ) → i < r → row F (suc r) b (solve F (suc r) a b c) (a (suc i)) ≡ c (suc i)
      rest_solved left i h =
          mul_cancel F _ _ _ (cross (suc i) 0 (omega arith) (omega arith))
          (eliminated (solve F (suc r) a b c) i h ∙ rw (first_solved, regrown, left i h, mul-inv F _ (rows_differ i h)) (add_comm F _ _ ∙ sub-add F _ _))
        where
          regrown : row F r (after b) (shrunk (a 0) (b 0) (after b) (after (solve F (suc r) a b c))) (a (suc i)) ≡ row F r (after b) (solve F r (after a) (after b) (reduced F a b c)) (a (suc i))
          regrown = sum_below F r _ _ λ j k. ap (λ s. inv (a (suc i) ⊖ b (suc j)) ⊙ s) (shrunk_grown (solve F r (after a) (after b) (reduced F a b c)) j k)

  pub cauchy_zero : (r : ℕ) (a b y : ℕ → A) → Points r a b → ((i : ℕ) → i < r → row F r b y (a i) ≡ 𝟘) → (j : ℕ) → j < r → y j ≡ 𝟘
  cauchy_zero zero a b y p zeros j h = absurd (omega arith)
  cauchy_zero (suc r) a b y p zeros j h =
      let rest = rest_zero r a b p y zeros (cauchy_zero r (after a) (after b) _ (after_points p) (zeros_left r a b p y zeros)) in
      each (λ j. y j ≡ 𝟘) r (first_zero r a b p y zeros rest) rest j h

  pub cauchy_unique : (r : ℕ) (a b x y : ℕ → A) → Points r a b → ((i : ℕ) → i < r → row F r b x (a i) ≡ row F r b y (a i)) → (j : ℕ) → j < r → x j ≡ y j
  cauchy_unique r a b x y p same j h =
      sub-zero F _ _ (cauchy_zero r a b (λ j. x j ⊖ y j) p (λ i k. sum_same F r (λ j. inv (a i ⊖ b j)) x y (same i k)) j h)

  pub cauchy_solved : (r : ℕ) (a b c : ℕ → A) → Points r a b → (i : ℕ) → i < r → row F r b (solve F r a b c) (a i) ≡ c i
  cauchy_solved zero a b c p i h = absurd (omega arith)
  cauchy_solved (suc r) a b c p i h =
      each (λ i. row F (suc r) b (solve F (suc r) a b c) (a i) ≡ c i) r (first_solved r a b p c) (rest_solved r a b p c (cauchy_solved r (after a) (after b) (reduced F a b c) (after_points p))) i h
