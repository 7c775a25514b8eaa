-- The recursion for Cauchy systems, in one array.
use Rattle.std.proofs.Common.{◌≡◌, ℕ, zero, suc, ◌+◌, ◌-◌, ◌<◌, ◌≤◌, sym, ap, ◌∙◌, ap₂, arith}
use mathlib.Core.Path.{fun_ext}
use Rattle.algebra.specs.Algebra.{Field, minus}
use Rattle.algebra.specs.Cauchy.{after, row, grown, reduced, solve}
use Rattle.algebra.proofs.Sums.{sum_below}
use Rattle.mending.specs.Stored.{from, reduced_at, grown_at}

module _ {A : Type 0} (F : Field A) where
  reduced_alike : (x x' l l' c c' y y' d d' : A) → x ≡ x' → l ≡ l' → c ≡ c' → y ≡ y' → d ≡ d'
      → F.mul (F.inv (minus F x y)) (minus F (F.mul (minus F y l) d) (F.mul (minus F x l) c)) ≡ F.mul (F.inv (minus F x' y')) (minus F (F.mul (minus F y' l') d') (F.mul (minus F x' l') c'))
  reduced_alike x x' l l' c c' y y' d d' ex el ec ey ed = rw (ex, el, ec, ey, ed)

  grown_alike : (x x' l l' b b' w w' : A) → x ≡ x' → l ≡ l' → b ≡ b' → w ≡ w' → F.mul (minus F x b) (F.mul (F.inv (minus F b l)) w) ≡ F.mul (minus F x' b') (F.mul (F.inv (minus F b' l')) w')
  grown_alike x x' l l' b b' w w' ex el eb ew = rw (ex, el, eb, ew)

  term_alike : (x x' b b' y y' : A) → x ≡ x' → b ≡ b' → y ≡ y' → F.mul (F.inv (minus F x b)) y ≡ F.mul (F.inv (minus F x' b')) y'
  term_alike x x' b b' y y' ex eb ey = rw (ex, eb, ey)

  first_alike : (x x' l l' c c' s s' : A) → x ≡ x' → l ≡ l' → c ≡ c' → s ≡ s' → F.mul (minus F x l) (minus F c s) ≡ F.mul (minus F x' l') (minus F c' s')
  first_alike x x' l l' c c' s s' ex el ec es = rw (ex, el, ec, es)

  -- systems that are the same below r have the same solution there
  pub solve_same : (r : ℕ) (a a' b b' c c' : ℕ → A)
      → ((i : ℕ) → i < r → a i ≡ a' i) → ((i : ℕ) → i < r → b i ≡ b' i) → ((i : ℕ) → i < r → c i ≡ c' i)
      → (j : ℕ) → j < r → solve F r a b c j ≡ solve F r a' b' c' j
  solve_same zero a a' b b' c c' ea eb ec j h = absurd (omega arith)
  solve_same (suc r) a a' b b' c c' ea eb ec j h =
      go j h (solve_same r (after a) (after a') (after b) (after b') (reduced F a b c) (reduced F a' b' c') (λ i l. ea (suc i) (omega arith)) (λ i l. eb (suc i) (omega arith)) left)
    where
      left : (i : ℕ) → i < r → reduced F a b c i ≡ reduced F a' b' c' i
      left i l = reduced_alike _ _ _ _ _ _ _ _ _ _ (ea 0 (omega arith)) (eb 0 (omega arith)) (ec 0 (omega arith)) (ea (suc i) (omega arith)) (ec (suc i) (omega arith))

      y : ℕ → A
      y = grown F (a 0) (b 0) (after b) (solve F r (after a) (after b) (reduced F a b c))

      y' : ℕ → A
      y' = grown F (a' 0) (b' 0) (after b') (solve F r (after a') (after b') (reduced F a' b' c'))

      Left : Type 0
      Left = (i : ℕ) → i < r → solve F r (after a) (after b) (reduced F a b c) i ≡ solve F r (after a') (after b') (reduced F a' b' c') i

      rest : Left → (i : ℕ) → i < r → y i ≡ y' i
      rest w i l = grown_alike _ _ _ _ _ _ _ _ (ea 0 (omega arith)) (eb 0 (omega arith)) (eb (suc i) (omega arith)) (w i l)

      go : (j : ℕ) → j < suc r → Left → solve F (suc r) a b c j ≡ solve F (suc r) a' b' c' j
      go zero l w =
          first_alike _ _ _ _ _ _ _ _ (ea 0 (omega arith)) (eb 0 (omega arith)) (ec 0 (omega arith))
          (sum_below F r _ _ λ j m. term_alike _ _ _ _ _ _ (ea 0 (omega arith)) (eb (suc j) (omega arith)) (rest w j m))
      go (suc i) l w = rest w i (omega arith)

  -- one step: the unknowns of the smaller system, grown, and the first one from row `first`
  module _ (a b c smaller rest unknowns : ℕ → A) (first size : ℕ)
      (eliminated : (i : ℕ) → first < i → i < size → smaller i ≡ reduced_at F a b c first i)
      (solved : (j : ℕ) → first + 1 ≤ j → j < size → rest j ≡ solve F (size - (first + 1)) (from (first + 1) a) (from (first + 1) b) (from (first + 1) smaller) (j - (first + 1)))
      (grows : (j : ℕ) → first < j → j < size → unknowns j ≡ grown_at F a b rest first j) where
    left : ℕ
    left = size - (first + 1)

    at_first : (f : ℕ → A) → f first ≡ from first f 0
    at_first f = let e : first ≡ first + 0 = omega arith in ap f e

    at_later : (f : ℕ → A) (i : ℕ) → from (first + 1) f i ≡ from first f (suc i)
    at_later f i = let e : first + 1 + i ≡ first + suc i = omega arith in ap f e

    abbrev inner : ℕ → A
    inner = solve F (size - (first + 1)) (after (from first a)) (after (from first b)) (reduced F (from first a) (from first b) (from first c))

    abbrev outer : ℕ → A
    outer = grown F (from first a 0) (from first b 0) (after (from first b)) inner

    rest_is : (i : ℕ) → i < size - (first + 1) → rest (first + 1 + i) ≡ inner i
    rest_is i h =
        solved (first + 1 + i) (omega arith) (omega arith)
        ∙ (let e : first + 1 + i - (first + 1) ≡ i = omega arith in ap (solve F (size - (first + 1)) (from (first + 1) a) (from (first + 1) b) (from (first + 1) smaller)) e)
        ∙ solve_same (size - (first + 1)) _ _ _ _ _ _ (λ l o. at_later a l) (λ l o. at_later b l)
        (λ l o. eliminated (first + 1 + l) (omega arith) (omega arith)
        ∙ reduced_alike _ _ _ _ _ _ _ _ _ _ (at_first a) (at_first b) (at_first c) (at_later a l) (at_later c l)) i h

    unknown_is : (i : ℕ) → i < size - (first + 1) → from (first + 1) unknowns i ≡ outer i
    unknown_is i h =
        grows (first + 1 + i) (omega arith) (omega arith)
        ∙ grown_alike _ _ _ _ _ _ _ _ (at_first a) (at_first b) (at_later b i) (rest_is i h)

    module _ (done : ℕ → A)
        (here : done first ≡ F.mul (minus F (a first) (b first)) (minus F (c first) (row F (size - (first + 1)) (from (first + 1) b) (from (first + 1) unknowns) (a first))))
        (others : (j : ℕ) → first < j → done j ≡ unknowns j) where
      solved_at : (i : ℕ) → first + i < size → done (first + i) ≡ solve F (suc (size - (first + 1))) (from first a) (from first b) (from first c) i
      solved_at zero h =
          ap done (let e : first + 0 ≡ first = omega arith in e) ∙ here
          ∙ first_alike _ _ _ _ _ _ _ _ (at_first a) (at_first b) (at_first c)
          (sum_below F (size - (first + 1)) _ _ λ j m. term_alike _ _ _ _ _ _ (at_first a) (at_later b j) (unknown_is j m))
      solved_at (suc i) h =
          others (first + suc i) (omega arith) ∙ sym (at_later unknowns i) ∙ unknown_is i (omega arith)

      pub step_solved : (j : ℕ) → first ≤ j → j < size → done j ≡ solve F (size - first) (from first a) (from first b) (from first c) (j - first)
      step_solved j l h =
          let e : first + (j - first) ≡ j = omega arith in
          let r : suc (size - (first + 1)) ≡ size - first = omega arith in
          ap done (sym e) ∙ solved_at (j - first) (omega arith)
          ∙ ap (λ v. solve F v (from first a) (from first b) (from first c) (j - first)) r

  -- from the first on is the whole
  pub solve_from : (r : ℕ) (a b c : ℕ → A) (j : ℕ) → solve F (r - 0) (from 0 a) (from 0 b) (from 0 c) (j - 0) ≡ solve F r a b c j
  solve_from r a b c j =
      let e : r - 0 ≡ r = omega arith in
      let d : j - 0 ≡ j = omega arith in
      ap₂ (λ v w. solve F v (from 0 a) (from 0 b) (from 0 c) w) e d
      ∙ ap (λ f. solve F r f (from 0 b) (from 0 c) j) (whole a)
      ∙ ap (λ f. solve F r a f (from 0 c) j) (whole b)
      ∙ ap (λ f. solve F r a b f j) (whole c)
    where
      whole : (f : ℕ → A) → from 0 f ≡ f
      whole f = fun_ext λ i. let e : 0 + i ≡ i = omega arith in ap f e
