-- What rows with planned weights make: the lost data rows, and parity rows from all data rows.
use Rattle.std.proofs.Common.{◌≡◌, ℕ, zero, suc, ◌+◌, ◌-◌, ◌<◌, ◌≤◌, Bool, true, false, cond, ◌&&◌, eqb, ltb, ◌≢◌, ◌⊎◌, sym, refl, ap, ◌∙◌, ap₂, inl, inr, get_or, arith}
use Rattle.std.proofs.lemmas.Bool.{and_from, not-true, not-false, not_from_false, both_ways, lt-ltb, le-ltb, eq-eqb, ne_eqb, cases_lt}
use Rattle.algebra.specs.Algebra.{Field}
use Rattle.algebra.specs.Sum.{sum_to}
use Rattle.algebra.specs.Theorems.{coefficient, Square, Solves, solution}
use Rattle.algebra.proofs.Cases.{by_cases}
use Rattle.algebra.proofs.Matrix.{exactly_one_solution}
use Rattle.algebra.proofs.Ring.{add-zero, zero-add, add-mul, mul-add, mul-zero, zero-mul, one-mul, mul_comm, mul_assoc, add-neg}
use Rattle.algebra.proofs.Sums.{sum_below, sum-zero, sum-add, sum_mul, sum_exchange, sum_one}
use Rattle.rules.specs.Codes.{combination}
use Rattle.rules.specs.Search.{counted}
use Rattle.rules.proofs.Counted.{select, selected, select_rank, counted_before, sum_selected}
use Rattle.mending.specs.declared.plans.Plan.{Plan}
use Rattle.mending.specs.Picked.{Picked}
use Rattle.mending.specs.Plans.{lost, used_by, share, weight_in, weight_of, Planned}
use Rattle.mending.proofs.Planning.{square_of}

-- the one of a rank, as it is picked
selected_picked : (n : ℕ) (test : ℕ → Bool) (r : ℕ) → r < counted n test → Picked n test r (select n test r)
selected_picked n test r h = let s = selected n test r h in record { below = s.below; passes = s.passes; rank = s.rank }

module _ {A : Type 0} (F : Field A) where
  -- terms that are zero from k on do not count
  pub sum_front : (k p : ℕ) (f : ℕ → A) → ((i : ℕ) → i < p → f (k + i) ≡ F.zer) → sum_to F (k + p) f ≡ sum_to F k f
  sum_front k zero f e = let z : k + 0 ≡ k = omega arith in ap (λ n. sum_to F n f) z
  sum_front k (suc p) f e =
      let z : k + suc p ≡ suc (k + p) = omega arith in
      ap (λ n. sum_to F n f) z ∙ ap₂ F.add (sum_front k p f (λ i h. e i (omega arith))) (e p (omega arith)) ∙ add-zero F _

  sum_times : (n : ℕ) (f : ℕ → A) (x : A) → F.mul (sum_to F n f) x ≡ sum_to F n (λ i. F.mul (f i) x)
  sum_times n f x = mul_comm F _ _ ∙ sym (sum_mul F n x f) ∙ sum_below F n _ _ (λ i h. mul_comm F _ _)

  sum_none : (n : ℕ) (f : ℕ → A) → ((i : ℕ) → i < n → f i ≡ F.zer) → sum_to F n f ≡ F.zer
  sum_none n f e = sum_below F n f (λ i. F.zer) e ∙ sum-zero F n

module _ {A : Type 0} (F : Field A) (k p : ℕ) (room : k + 4 ≤ F.size) (four : p ≤ 4) (sound : ℕ → Bool)
    (enough : counted k (lost F k sound) ≤ counted p (λ i. sound (k + i))) (plan : Plan) (planned : Planned F k p sound plan) where
  abbrev bad : ℕ → Bool
  bad = lost F k sound

  abbrev good : ℕ → Bool
  good i = sound (k + i)

  abbrev at : ℕ → ℕ
  at b = get_or plan.choice.lost.at b 0

  abbrev W : ℕ → ℕ → A
  W row b = weight_in F plan.weights row b

  at_select : (b : ℕ) → b < plan.choice.lost.count → at b ≡ select k bad b
  at_select b h =
      let pick = planned.picks b h in
      sym (select_rank k bad (at b) pick.below pick.passes) ∙ ap (select k bad) pick.rank

  module _ (row : ℕ) (h : row < k + p) (off : sound row ≡ false) where
    abbrev used_at : ℕ → ℕ
    used_at a = select p good a

    used_picked : (a : ℕ) → a < counted p good → Picked p good a (used_at a)
    used_picked a l = selected_picked p good a l

    uses : (a : ℕ) → a < counted k bad → used_by F k sound (used_at a) ≡ true
    uses a l = let s = used_picked a (omega arith) in and_from _ _ s.passes (lt-ltb _ _ (omega (arith, s.rank)))

    no_share : (i : ℕ) → sound (k + i) ≡ true → share F k sound i row ≡ F.zer
    no_share i on =
        elim (cases_lt row k) [
          | inl less ↦ rw (lt-ltb row k less, off)
          | inr more ↦
              let ne : row ≢ k + i = λ e. both_ways _ off (ap sound e ∙ on) in
              rw (le-ltb row k more, ne_eqb row (k + i) ne)
        ]

    pub idle : (b : ℕ) → b < plan.choice.lost.count → W row b ≡ F.zer
    idle b l =
        both.1 (W row) solves b (omega (arith, planned.count)) ∙ sym (both.1 (λ c. F.zer) none b (omega (arith, planned.count)))
      where
        picked : (b : ℕ) → b < counted k bad → Picked k bad b (at b)
        picked b l = planned.picks b (omega (arith, planned.count))

        square : Square F k (counted k bad) used_at at
        square = square_of F k p sound used_at at room four enough picked used_picked

        rhs : ℕ → A
        rhs a = share F k sound (used_at a) row

        both : Solves F (counted k bad) used_at at rhs (solution F (counted k bad) used_at at rhs)
            × ((x : ℕ → A) → Solves F (counted k bad) used_at at rhs x → (j : ℕ) → j < counted k bad → x j ≡ solution F (counted k bad) used_at at rhs j)
        both = exactly_one_solution F k (counted k bad) used_at at square rhs

        solves : Solves F (counted k bad) used_at at rhs (W row)
        solves a o =
            ap (λ c. sum_to F c (λ b. F.mul (coefficient F (used_at a) (at b)) (W row b))) (sym planned.count)
            ∙ planned.solves row (used_at a) h (used_picked a (omega arith)).below (uses a o)

        none : Solves F (counted k bad) used_at at rhs (λ c. F.zer)
        none a o = sum_none F (counted k bad) _ (λ b l. mul-zero F _) ∙ sym (no_share (used_at a) (used_picked a (omega arith)).passes)

  abbrev own : ℕ → ℕ → A
  own i row = cond (ltb row k && sound row) (coefficient F i row) F.zer

  abbrev through : ℕ → ℕ → A
  through i row = sum_to F plan.choice.lost.count (λ b. F.mul (coefficient F i (at b)) (W row b))

  parity_weight : (i row : ℕ) → weight_of F k sound plan (k + i) row ≡ F.add (own i row) (through i row)
  parity_weight i row = let e : k + i - k ≡ i = omega arith in rw (le-ltb (k + i) k (omega arith), e)

  lost_weight : (j row : ℕ) → j < k → weight_of F k sound plan j row ≡ W row (counted j bad)
  lost_weight j row h = rw (lt-ltb j k h)

  -- a row that is not sound has no weight in a row that is worked
  pub no_weight : (row source : ℕ) → row < k + p → sound row ≡ false ⊎ (k ≤ row) → source < k + p → sound source ≡ false → weight_of F k sound plan row source ≡ F.zer
  no_weight row source h worked l off =
      elim (cases_lt row k) [
        | inl less ↦
            let is : sound row ≡ false = elim worked [ inl e ↦ e | inr more ↦ absurd (omega arith) ] in
            let rank = counted_before row k bad less (not_from_false _ is) in
            lost_weight row source less ∙ idle source l off (counted row bad) (omega (arith, planned.count, rank))
        | inr more ↦
            let e : k + (row - k) ≡ row = omega arith in
            ap (λ r. weight_of F k sound plan r source) (sym e) ∙ parity_weight (row - k) source
            ∙ ap₂ F.add (rw_own (row - k) source off) (sum_none F plan.choice.lost.count _ (λ b o. ap (F.mul _) (idle source l off b o) ∙ mul-zero F _))
            ∙ add-zero F _
      ]
    where
      rw_own : (i source : ℕ) → sound source ≡ false → own i source ≡ F.zer
      rw_own i source off = by_cases (ltb source k) (λ t. rw (t, off)) (λ t. rw t)

  module _ (x : ℕ → A) where
    -- the data rows' symbols: sound ones as they are, lost ones from the weights
    pub data_symbol : ℕ → A
    data_symbol j = cond (sound j) (x j) (sum_to F (k + p) (λ row. F.mul (W row (counted j bad)) (x row)))

    pub data_sound : (j : ℕ) → sound j ≡ true → data_symbol j ≡ x j
    unfolding data_symbol
    data_sound j e = rw e

    pub data_lost : (j : ℕ) → j < k → sound j ≡ false → sum_to F (k + p) (λ row. F.mul (weight_of F k sound plan j row) (x row)) ≡ data_symbol j
    unfolding data_symbol
    data_lost j h e = sum_below F (k + p) _ _ (λ row l. ap (λ w. F.mul w (x row)) (lost_weight j row h)) ∙ sym (rw e)

    abbrev sound_part : ℕ → A
    sound_part j = cond (sound j) (x j) F.zer

    abbrev lost_part : ℕ → A
    lost_part j = cond (sound j) F.zer (sum_to F (k + p) (λ row. F.mul (W row (counted j bad)) (x row)))

    parts : (j : ℕ) → F.add (sound_part j) (lost_part j) ≡ data_symbol j
    unfolding data_symbol
    parts j = by_cases (sound j) (λ e. rw e (add-zero F _)) (λ e. rw e (zero-add F _))

    own_sum : (i : ℕ) → sum_to F (k + p) (λ row. F.mul (own i row) (x row)) ≡ sum_to F k (λ j. F.mul (coefficient F i j) (sound_part j))
    own_sum i =
        sum_front F k p (λ row. F.mul (own i row) (x row)) (λ h l. ap (λ w. F.mul w (x (k + h))) (above h) ∙ zero-mul F _)
        ∙ sum_below F k _ _ here
      where
        above : (h : ℕ) → own i (k + h) ≡ F.zer
        above h = rw (le-ltb (k + h) k (omega arith))

        here : (j : ℕ) → j < k → F.mul (own i j) (x j) ≡ F.mul (coefficient F i j) (sound_part j)
        here j l = by_cases (sound j) (λ e. rw (lt-ltb j k l, e)) (λ e. rw (lt-ltb j k l, e) (zero-mul F _ ∙ sym (mul-zero F _)))

    lost_at : (b : ℕ) → b < plan.choice.lost.count → sum_to F (k + p) (λ row. F.mul (W row b) (x row)) ≡ lost_part (at b)
    lost_at b h =
        let pick = planned.picks b h in
        sym (rw (not-true _ pick.passes, pick.rank))

    through_sum : (i : ℕ) → sum_to F (k + p) (λ row. F.mul (through i row) (x row)) ≡ sum_to F k (λ j. F.mul (coefficient F i j) (lost_part j))
    through_sum i =
        sum_below F (k + p) _ _ (λ row l. sum_times F plan.choice.lost.count _ (x row) ∙ sum_below F plan.choice.lost.count _ _ (λ b o. mul_assoc F _ _ _))
        ∙ sum_exchange F (k + p) plan.choice.lost.count (λ row b. F.mul (coefficient F i (at b)) (F.mul (W row b) (x row)))
        ∙ sum_below F plan.choice.lost.count _ _ (λ b o. sum_mul F (k + p) (coefficient F i (at b)) (λ row. F.mul (W row b) (x row)) ∙ ap (F.mul (coefficient F i (at b))) (lost_at b o))
        ∙ sum_below F plan.choice.lost.count _ _ (λ b o. ap (λ j. F.mul (coefficient F i j) (lost_part j)) (at_select b o))
        ∙ ap (λ c. sum_to F c (λ b. F.mul (coefficient F i (select k bad b)) (lost_part (select k bad b)))) planned.count
        ∙ sym (sum_selected F k bad (λ j. F.mul (coefficient F i j) (lost_part j)) (λ j h e. ap (F.mul (coefficient F i j)) (none j (not-false _ e)) ∙ mul-zero F _))
      where
        none : (j : ℕ) → sound j ≡ true → lost_part j ≡ F.zer
        none j e = rw e

    -- a parity row from all data rows
    pub combined : (i : ℕ) → sum_to F (k + p) (λ row. F.mul (weight_of F k sound plan (k + i) row) (x row)) ≡ combination F k data_symbol i
    combined i =
        sum_below F (k + p) _ _ (λ row l. ap (λ w. F.mul w (x row)) (parity_weight i row) ∙ add-mul F _ _ _)
        ∙ sum-add F (k + p) _ _
        ∙ ap₂ F.add (own_sum i) (through_sum i)
        ∙ sym (sum-add F k _ _)
        ∙ sum_below F k _ _ (λ j l. sym (mul-add F _ _ _) ∙ ap (F.mul (coefficient F i j)) (parts j))

    -- a used parity row holds what the data rows make
    pub used_fits : (i : ℕ) → i < p → used_by F k sound i ≡ true → combination F k data_symbol i ≡ x (k + i)
    used_fits i h e =
        sym (combined i)
        ∙ sum_one F (k + p) (λ row. F.mul (weight_of F k sound plan (k + i) row) (x row)) (k + i) (omega arith)
        (λ row l ne. ap (λ w. F.mul w (x row)) (weight_is row l ∙ (let q = ne_eqb row (k + i) ne in rw q)) ∙ zero-mul F _)
        ∙ ap (λ w. F.mul w (x (k + i))) (weight_is (k + i) (omega arith) ∙ (let q = eq-eqb (k + i) (k + i) refl in rw q)) ∙ one-mul F _
      where
        sum_is : (row : ℕ) → row < k + p → F.add (own i row) (share F k sound i row) ≡ cond (eqb row (k + i)) F.one F.zer
        sum_is row l =
            elim (cases_lt row k) [
              | inl less ↦
                  let ne : row ≢ k + i = λ e. omega arith in
                  by_cases (sound row)
                  (λ on. rw (lt-ltb row k less, on, ne_eqb row (k + i) ne) (ap (F.add _) (zero-add F _) ∙ add-neg F _))
                  (λ off. rw (lt-ltb row k less, off, ne_eqb row (k + i) ne) (add-zero F _))
              | inr more ↦ rw (le-ltb row k more) (zero-add F _)
            ]

        weight_is : (row : ℕ) → row < k + p → weight_of F k sound plan (k + i) row ≡ cond (eqb row (k + i)) F.one F.zer
        weight_is row l = parity_weight i row ∙ ap (F.add (own i row)) (planned.solves row i l h e) ∙ sum_is row l
