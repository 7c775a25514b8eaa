-- One place of all rows: the lost data symbols, and as many parity symbols, say each other.
use Rattle.std.proofs.Common.{◌≡◌, ℕ, ◌+◌, ◌<◌, ◌≤◌, Bool, true, false, cond, ◌&&◌, ltb, ◌≢◌, sym, ap, ◌∙◌, inl, inr, arith}
use Rattle.std.proofs.lemmas.Bool.{cases_Bool, and_from, and_parts, lt-ltb, ltb-true}
use Rattle.algebra.specs.Algebra.{Field}
use Rattle.algebra.proofs.Ring.{add_comm, add-neg, mul-add, sub-add, mul-zero, sub-zero, sub_nonzero, factor_zero, mul_assoc, mul_left_comm, mul-inv}
use Rattle.algebra.proofs.Sums.{sum_below, sum_same, sum-add}
use Rattle.algebra.specs.Cauchy.{Points, row, solve}
use Rattle.algebra.proofs.Cauchy.{cauchy_zero, cauchy_solved}
use Rattle.rules.specs.Codes.{combination}
use Rattle.algebra.specs.Algebra.{minus}
use Rattle.algebra.specs.Theorems.{coefficient}
use Rattle.rules.specs.Search.{counted}
use Rattle.rules.proofs.Counted.{counted_before, select, selected, select_rank, sum_selected}

elements_differ : {X : Type 0} (F : Field X) (i j : ℕ) → i < F.size → j < F.size → i ≢ j → F.element i ≢ F.element j
elements_differ F i j h l ne e = ne (sym (F.number_element i h) ∙ ap F.number e ∙ F.number_element j l)

module _ {X : Type 0} (F : Field X) (k p : ℕ) (size : k + 4 ≤ F.size) (four : p ≤ 4) (bad good : ℕ → Bool) (enough : counted k bad ≤ counted p good) where
  infixl 70 ◌⊙◌
  open F use {zer as 𝟘, add as ◌⊕◌, mul as ◌⊙◌, neg, inv}

  -- parity row i is one of the lowest good ones, one for each bad data row
  abbrev pub needed : ℕ → Bool
  needed i = good i && ltb (counted i good) (counted k bad)

  -- the points of the parity rows that are needed, and of the bad data rows
  abbrev a : ℕ → X
  a i = F.element (select p good i)

  abbrev b : ℕ → X
  b t = F.element (4 + select k bad t)

  abbrev w : ℕ → X
  w j = minus F (F.element 0) (F.element (4 + j))

  points : Points (counted k bad) a b
  points = record {
    rows = λ i j h l ne. let s = selected p good i (omega arith) in let t = selected p good j (omega arith) in
        elements_differ F _ _ (omega (arith, s.below)) (omega (arith, t.below)) (λ e. ne (sym s.rank ∙ ap (λ x. counted x good) e ∙ t.rank));
    columns = λ i j h l ne. let s = selected k bad i h in let t = selected k bad j l in
        elements_differ F _ _ (omega (arith, s.below)) (omega (arith, t.below)) (λ e. ne (sym s.rank ∙ ap (λ x. counted x bad) (omega arith) ∙ t.rank));
    apart = λ i j h l. let s = selected p good i (omega arith) in let t = selected k bad j l in
        elements_differ F _ _ (omega (arith, s.below)) (omega (arith, t.below)) (omega (arith, s.below));
  }

  w_nonzero : (j : ℕ) → j < k → w j ≢ 𝟘
  w_nonzero j h = sub_nonzero F _ _ (elements_differ F 0 (4 + j) (omega arith) (omega arith) (omega arith))

  needed_selected : (i : ℕ) → i < counted k bad → needed (select p good i) ≡ true
  needed_selected i h = let s = selected p good i (omega arith) in and_from _ _ s.passes (lt-ltb _ _ (omega (arith, s.rank)))

  -- A column that is zero at the rows that are not bad, through the system of the others.
  narrow : (δ : ℕ → X) → ((j : ℕ) → j < k → bad j ≡ false → δ j ≡ 𝟘) → (i : ℕ)
      → combination F k δ i ≡ row F (counted k bad) b (λ t. w (select k bad t) ⊙ δ (select k bad t)) (F.element i)
  narrow δ off i =
      sum_selected F k bad _ (λ j h e. ap (λ x. coefficient F i j ⊙ x) (off j h e) ∙ mul-zero F _)
      ∙ sum_below F _ _ _ (λ t h. simp (mul_assoc, mul_left_comm))

  pub column_unique : (x y : ℕ → X) → ((j : ℕ) → j < k → bad j ≡ false → x j ≡ y j)
      → ((i : ℕ) → i < p → needed i ≡ true → combination F k x i ≡ combination F k y i) → (j : ℕ) → j < k → x j ≡ y j
  column_unique x y same fit j h = elim (cases_Bool (bad j)) [ inl e ↦ sub-zero F _ _ (rw (select_rank k bad j h e) at (gone (counted j bad) (counted_before j k bad h e))) | inr e ↦ same j h e ]
    where
      δ : ℕ → X
      δ j = minus F (x j) (y j)

      zeros : (i : ℕ) → i < counted k bad → row F (counted k bad) b (λ t. w (select k bad t) ⊙ δ (select k bad t)) (a i) ≡ 𝟘
      zeros i h =
          sym (narrow δ (λ j l e. ap (λ z. minus F z (y j)) (same j l e) ∙ add-neg F _) (select p good i))
          ∙ sum_same F k (coefficient F (select p good i)) x y (fit (select p good i) (selected p good i (omega arith)).below (needed_selected i h))

      gone : (t : ℕ) → t < counted k bad → δ (select k bad t) ≡ 𝟘
      gone t l = factor_zero F _ _ (w_nonzero _ (selected k bad t l).below) (cauchy_zero F (counted k bad) a b _ points zeros t l)

  -- data symbols v kept where they are not bad, and the others found from the needed parity symbols u
  module _ (v u : ℕ → X) where
    abbrev good_part : ℕ → X
    good_part j = cond (bad j) 𝟘 (v j)

    abbrev wanted : ℕ → X
    wanted i = minus F (u (select p good i)) (combination F k good_part (select p good i))

    abbrev bad_part : ℕ → X
    bad_part j = cond (bad j) (inv (w j) ⊙ solve F (counted k bad) a b wanted (counted j bad)) 𝟘

    pub column : ℕ → X
    column j = F.add (good_part j) (bad_part j)

    pub column_kept : (j : ℕ) → bad j ≡ false → column j ≡ v j
    unfolding column
    column_kept j e = rw (column, e) (F.add-zero _)

    bad_solved : (t : ℕ) → t < counted k bad → w (select k bad t) ⊙ bad_part (select k bad t) ≡ solve F (counted k bad) a b wanted t
    bad_solved t h = let s = selected k bad t h in rw (s.passes, s.rank) (mul-inv F _ (w_nonzero _ s.below) _)

    solved_at : (t : ℕ) → t < counted k bad → combination F k column (select p good t) ≡ u (select p good t)
    unfolding column
    solved_at t h =
        sum_below F k _ _ (λ j l. mul-add F _ _ _) ∙ sum-add F k _ _
        ∙ ap (F.add _) (narrow bad_part (λ j l e. rw e) _ ∙ sum_below F (counted k bad) _ _ (λ r l. ap (F.mul _) (bad_solved r l)) ∙ cauchy_solved F (counted k bad) a b wanted points t h)
        ∙ add_comm F _ _ ∙ sub-add F _ _

    pub column_solved : (i : ℕ) → i < p → needed i ≡ true → combination F k column i ≡ u i
    column_solved i h e = let n = and_parts _ _ e in rw (select_rank p good i h n.0) at (solved_at (counted i good) (ltb-true _ _ n.1))
