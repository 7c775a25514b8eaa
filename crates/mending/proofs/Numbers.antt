-- Elements kept by their numbers.
use Rattle.std.proofs.Common.{List, length, arith, add-one, ap, eqb, eqb-true, lt-ltb, ltb, sym, true, ℕ, ◌+◌, ◌-◌, ◌<◌, ◌≤◌, ◌∙◌, ◌≡◌}
use Rattle.std.proofs.lemmas.List.{get_or_past}
use Rattle.algebra.specs.Algebra.{Field}
use Rattle.algebra.proofs.Cases.{by_cases}
use Rattle.algebra.proofs.Ring.{zero-mul}
use Rattle.algebra.specs.Sum.{sum_to}
use Rattle.rows.specs.Weights.{element_of}
use Rattle.mending.specs.Stored.{stored}
use Rattle.mending.proofs.Weighing.{sum_front}

module _ {A : Type 0} (F : Field A) where
  pub element_number : (x : A) → element_of F (F.number x) ≡ x
  unfolding element_of
  element_number x = let h = lt-ltb (F.number x) F.size (F.number_bound x) in rw h (F.element_number x)

  pub element_small : (v : ℕ) → v < F.size → element_of F v ≡ F.element v
  unfolding element_of
  element_small v l = let h = lt-ltb v F.size l in rw h

  pub element_zero : element_of F 0 ≡ F.zer
  unfolding element_of
  element_zero = by_cases (ltb 0 F.size) (λ h. rw h F.element_zero) (λ h. rw h)

  pub element_numbered : (y : ℕ) (x : A) → F.number x ≡ y → element_of F y ≡ x
  element_numbered y x e = ap (element_of F) (sym e) ∙ element_number x

  pub same_number : (x y : A) → eqb (F.number x) (F.number y) ≡ true → x ≡ y
  same_number x y e = sym (F.element_number x) ∙ ap F.element (eqb-true _ _ e) ∙ F.element_number y

  -- one term more, which may be nothing
  pub sum_next : (n : ℕ) (w x : ℕ → A) → F.add (sum_to F n (λ i. F.mul (w i) (x i))) (F.mul (w n) (x n)) ≡ sum_to F (n + 1) (λ i. F.mul (w i) (x i))
  sum_next n w x = rw (add-one n)

  pub sum_passed : (n : ℕ) (w x : ℕ → A) → w n ≡ F.zer → sum_to F n (λ i. F.mul (w i) (x i)) ≡ sum_to F (n + 1) (λ i. F.mul (w i) (x i))
  sum_passed n w x e = sym (F.add-zero _) ∙ ap (F.add _) (sym (ap (λ v. F.mul v (x n)) e ∙ zero-mul F _)) ∙ sum_next n w x

  -- of more elements than are kept: those beyond are zero
  pub sum_kept : (numbers : List ℕ) (x : ℕ → A) (few all : ℕ) → few ≤ all → (few < all → length numbers ≤ few)
      → sum_to F few (λ i. F.mul (stored F numbers i) (x i)) ≡ sum_to F all (λ i. F.mul (stored F numbers i) (x i))
  sum_kept numbers x few all le past =
      let rest : few + (all - few) ≡ all = omega arith in
      sym (sum_front F few (all - few) (λ i. F.mul (stored F numbers i) (x i)) (λ i h. ap (λ w. F.mul w (x (few + i))) (ap (element_of F) (get_or_past numbers (few + i) 0 (omega (arith, past (omega arith)))) ∙ element_zero) ∙ zero-mul F _))
      ∙ ap (λ n. sum_to F n (λ i. F.mul (stored F numbers i) (x i))) rest
