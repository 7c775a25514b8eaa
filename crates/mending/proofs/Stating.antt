-- What planned weights make in a state: the data rows that mend works, and every parity row from them.
use Rattle.std.proofs.Common.{◌≡◌, ℕ, ◌+◌, ◌-◌, ◌<◌, ◌≤◌, Bool, true, false, not, ◌&&◌, ltb, ◌⊎◌, None, sym, ap, ◌∙◌, ap₂, subst, inl, inr, arith}
use Rattle.std.proofs.lemmas.Bool.{and_parts, and_from, lt-ltb, ltb-true, cases_lt}
use Rattle.algebra.specs.Algebra.{Field}
use Rattle.algebra.specs.Sum.{sum_to}
use Rattle.algebra.proofs.Sums.{sum_below}
use Rattle.shelves.specs.Contents.{symbol}
use Rattle.rules.specs.Codes.{combination, differ, table_block}
use Rattle.rules.specs.Search.{counted, lowest}
use Rattle.rules.specs.States.{State, symbol_or, k, p, n, cell, symbol_at, fits, sound, unsound_count}
use Rattle.rules.specs.Updates.{used, Worked, worked_misfit}
use Rattle.rules.specs.declared.Sizes.{Sizes}
use Rattle.rules.proofs.Counted.{counted_add, counted_not, counted_same}
use Rattle.rules.proofs.Found.{none_lowest, lowest_alike}
use Rattle.rules.proofs.Rows.{fitting, read_back, sound_means}
use Rattle.rules.proofs.Tables.{same_differ, combination_same, block_data, block_parity}
use Rattle.rules.proofs.Working.{bad, good, worked_unique}
use Rattle.mending.specs.declared.Damage.{Damage}
use Rattle.mending.specs.declared.plans.Plan.{Plan}
use Rattle.mending.specs.Plans.{flag, Gathered, lost, used_by, weight_of, RowsFit, LostBelow, Planned, PlannedFor, Ready, ReadyFor}
use Rattle.mending.proofs.Weighing.{data_symbol, data_sound, data_lost, combined, used_fits, no_weight}

rows_fit : {X : Type 0} (F : Field X) (s : State X) → fits F s ≡ true → RowsFit F s.sizes
rows_fit F s fit = let f = fitting F s fit in record { few = f.k_high; four = f.p_high; room = f.enough }

-- a state of which it is known which rows are sound, and that no more are not than there are parity rows
module _ {X : Type 0} (F : Field X) (s : State X) (few : unsound_count F s ≤ p s) (damage : Damage) (flags_are : (row : ℕ) → row < k s + p s → flag damage row ≡ sound F s row) where
  bad_rows : counted (k s) (lost F (k s) (flag damage)) ≡ counted (k s) (bad F s)
  bad_rows = counted_same (k s) _ _ (λ j h. ap not (flags_are j (omega arith)))

  good_rows : (i : ℕ) → i ≤ p s → counted i (λ h. flag damage (k s + h)) ≡ counted i (good F s)
  good_rows i h = counted_same i _ _ (λ j l. flags_are (k s + j) (omega arith))

  -- there are enough sound parity rows
  enough_rows : counted (k s) (lost F (k s) (flag damage)) ≤ counted (p s) (λ i. flag damage (k s + i))
  enough_rows = omega (arith, bad_rows, good_rows (p s) (omega arith), counted_add (k s) (p s) (bad F s), counted_not (p s) (good F s))

-- what is planned for the damage of a state can mend it
module _ {X : Type 0} (F : Field X) (s : State X) (fit : fits F s ≡ true) (few : unsound_count F s ≤ p s) (damage : Damage) (gathered : Gathered F s damage) where
  flags_of : (row : ℕ) → row < k s + p s → flag damage row ≡ sound F s row
  flags_of = let f = fitting F s fit in gathered.rows (omega (arith, f.p_high))

  pub gathered_ready : (plan : Plan) → Planned F (k s) (p s) (flag damage) plan → ReadyFor F s damage plan
  gathered_ready plan planned = record { fit = fit; few = few; flags_are = flags_of; planned = planned }

  -- what was planned for sizes that are the state's
  module _ (sizes : Sizes) (plan : Plan) (same : s.sizes ≡ sizes)
      (plans : RowsFit F sizes → counted sizes.data_rows (λ j. not (flag damage j)) ≤ counted sizes.parity_rows (λ i. flag damage (sizes.data_rows + i)) → PlannedFor F sizes damage plan) where
    planned_as_met : PlannedFor F s.sizes damage plan
    planned_as_met =
        subst (λ (z : Sizes). (RowsFit F z → counted z.data_rows (λ j. not (flag damage j)) ≤ counted z.parity_rows (λ i. flag damage (z.data_rows + i)) → PlannedFor F z damage plan)) (sym same) plans
        (rows_fit F s fit) (enough_rows F s few damage flags_of)

    pub planned_ready_for : ReadyFor F s damage plan
    planned_ready_for = gathered_ready plan planned_as_met.planned

    pub planned_ready : Ready F s plan
    planned_ready =
        let e : damage ≡ plan.choice.damage = sym planned_as_met.damage_is in
        record {
          fit = fit;
          few = few;
          data_rows_are = ap (λ (z : Sizes). z.data_rows) planned_as_met.sizes_are;
          parity_rows_are = ap (λ (z : Sizes). z.parity_rows) planned_as_met.sizes_are;
          flags_are = subst (λ (d : Damage). (row : ℕ) → row < k s + p s → flag d row ≡ sound F s row) e flags_of;
          planned = subst (λ (d : Damage). Planned F (k s) (p s) (flag d) plan) e planned_as_met.planned;
        }

module _ {X : Type 0} (F : Field X) (s : State X) (damage : Damage) (plan : Plan) (ready : ReadyFor F s damage plan) where
  fit : fits F s ≡ true
  fit = ready.fit

  few : unsound_count F s ≤ p s
  few = ready.few

  abbrev on : ℕ → Bool
  on = flag damage

  planned : Planned F (k s) (p s) on plan
  planned = ready.planned

  -- what the damage says is what an audit finds
  pub flag_is : (row : ℕ) → row < k s + p s → on row ≡ sound F s row
  flag_is = ready.flags_are

  bads : counted (k s) (lost F (k s) on) ≡ counted (k s) (bad F s)
  bads = bad_rows F s few damage flag_is

  goods : (i : ℕ) → i ≤ p s → counted i (λ h. on (k s + h)) ≡ counted i (good F s)
  goods = good_rows F s few damage flag_is

  enough_of : counted (k s) (lost F (k s) on) ≤ counted (p s) (λ i. on (k s + i))
  enough_of = enough_rows F s few damage flag_is

  -- the weights of a row, as promised for rows that fit
  pub weights_for : (row : ℕ) (weights : ℕ → X)
      → (RowsFit F s.sizes → LostBelow (k s) plan → row < k s + p s → (source : ℕ) → source < k s + p s → weights source ≡ weight_of F (k s) on plan row source)
      → row < k s + p s → (source : ℕ) → source < k s + p s → weights source ≡ weight_of F (k s) on plan row source
  weights_for row weights are = are (rows_fit F s fit) (λ b h. (planned.picks b h).below)

  used_here : (i : ℕ) → i < p s → used F s i ≡ true → used_by F (k s) on i ≡ true
  used_here i h u =
      let q = and_parts _ _ u in
      and_from _ _ (flag_is (k s + i) (omega arith) ∙ q.0) (lt-ltb _ _ (omega (arith, goods i (omega arith), bads, ltb-true (counted i (good F s)) (counted (k s) (bad F s)) q.1)))

  -- what a sound row holds
  sound_symbol : (row place : ℕ) → place < n s → sound F s row ≡ true → cell s row place ≡ symbol (symbol_at F s row place)
  sound_symbol row place l e = read_back F.zer (((sound_means F s row).0 e).symbols place (omega arith))

  blocks_by : ℕ → ℕ → X
  blocks_by j place = data_symbol F (k s) (p s) (fitting F s fit).enough (fitting F s fit).p_high on enough_of plan planned (λ row. symbol_at F s row place) j

  blocks_worked : Worked F s blocks_by
  unfolding blocks_by
  blocks_worked = record {
    keeps = λ j place h l e.
        sound_symbol j place l e
        ∙ ap symbol (sym (data_sound F (k s) (p s) _ _ on enough_of plan planned (λ row. symbol_at F s row place) j (flag_is j (omega arith) ∙ e)));
    solves = λ i place h l u.
        sound_symbol (k s + i) place l (and_parts _ _ u).0
        ∙ ap symbol (sym (used_fits F (k s) (p s) _ _ on enough_of plan planned (λ row. symbol_at F s row place) i h (used_here i h u)));
  }

  -- a row that is not sound has no weight
  pub no_weight_here : (row source : ℕ) → row < k s + p s → (sound F s row ≡ false) ⊎ (k s ≤ row) → source < k s + p s → sound F s source ≡ false
      → weight_of F (k s) on plan row source ≡ F.zer
  no_weight_here row source h worked l off =
      no_weight F (k s) (p s) (fitting F s fit).enough (fitting F s fit).p_high on enough_of plan planned row source h
      (elim worked [ inl e ↦ inl (flag_is row h ∙ e) | inr more ↦ inr more ]) l (flag_is source l ∙ off)

  module _ (blocks : ℕ → ℕ → X) (w : Worked F s blocks) where
    same : (j place : ℕ) → j < k s → place < n s → blocks_by j place ≡ blocks j place
    same j place h l = worked_unique F s fit few blocks_by blocks blocks_worked w j place h l

    -- the symbols of a row that is worked
    pub made : (row place : ℕ) → row < k s + p s → (sound F s row ≡ false) ⊎ (k s ≤ row) → place < n s
        → sum_to F (k s + p s) (λ source. F.mul (weight_of F (k s) on plan row source) (symbol_at F s source place)) ≡ table_block F (k s) blocks row place
    unfolding blocks_by
    made row place h worked l =
        elim (cases_lt row (k s)) [
          | inl less ↦
              let is : sound F s row ≡ false = elim worked [ inl e ↦ e | inr more ↦ absurd (omega arith) ] in
              data_lost F (k s) (p s) _ _ on enough_of plan planned (λ source. symbol_at F s source place) row less (flag_is row h ∙ is)
              ∙ same row place less l ∙ sym (block_data F (k s) blocks row place less)
          | inr more ↦
              let e : k s + (row - k s) ≡ row = omega arith in
              subst (λ r. sum_to F (k s + p s) (λ source. F.mul (weight_of F (k s) on plan r source) (symbol_at F s source place)) ≡ table_block F (k s) blocks r place) e
              (combined F (k s) (p s) _ _ on enough_of plan planned (λ source. symbol_at F s source place) (row - k s)
              ∙ combination_same F (k s) _ _ (row - k s) (λ j o. same j place o l) ∙ sym (block_parity F (k s) blocks (row - k s) place))
        ]

    -- the search along one parity row
    pub misfit_found : (i : ℕ) → i < p s → sound F s (k s + i) ≡ true → (weights : ℕ → X) → ((source : ℕ) → source < k s + p s → weights source ≡ weight_of F (k s) on plan (k s + i) source)
        → lowest (n s) (λ place. differ F (sum_to F (k s + p s) (λ source. F.mul (weights source) (symbol_at F s source place))) (symbol_at F s (k s + i) place))
        ≡ lowest (n s) (worked_misfit F s blocks i)
    misfit_found i h e weights are =
        lowest_alike _ _ (n s) (n s) 0 (omega arith) (λ place l.
        ap (λ x. differ F x (symbol_at F s (k s + i) place))
        (sum_below F (k s + p s) _ _ (λ source o. ap (λ x. F.mul x (symbol_at F s source place)) (are source o))
        ∙ made (k s + i) place (omega arith) (inr (omega arith)) l ∙ block_parity F (k s) blocks i place)
        ∙ sym (ap (λ b. b && differ F (combination F (k s) (λ j. blocks j place) i) (symbol_at F s (k s + i) place)) e))

    pub misfit_none : (i : ℕ) → sound F s (k s + i) ≡ false → lowest (n s) (worked_misfit F s blocks i) ≡ None
    misfit_none i e = none_lowest (n s) (worked_misfit F s blocks i) (λ place l. ap (λ b. b && differ F (combination F (k s) (λ j. blocks j place) i) (symbol_at F s (k s + i) place)) e)

    -- a used parity row fits
    pub misfit_used_for : (i : ℕ) → i < p s → sound F s (k s + i) ≡ true → ltb (counted i (λ h. on (k s + h))) plan.choice.lost.count ≡ true
        → lowest (n s) (worked_misfit F s blocks i) ≡ None
    misfit_used_for i h e less =
        none_lowest (n s) (worked_misfit F s blocks i) (λ place l.
        let fits_there = same_differ F _ _ (sym (ap (symbol_or F.zer) (w.solves i place h l is_used))) in
        ap₂ (λ a b. a && b) e fits_there)
      where
        is_used : used F s i ≡ true
        is_used = and_from _ _ e (lt-ltb _ _ (omega (arith, goods i (omega arith), bads, planned.count, ltb-true (counted i (λ h. on (k s + h))) plan.choice.lost.count less)))

-- a plan that is ready by its own sizes and damage
module _ {X : Type 0} (F : Field X) (s : State X) (plan : Plan) (ready : Ready F s plan) where
  -- it is so by its damage, wherever that comes from
  pub ready_for : ReadyFor F s plan.choice.damage plan
  ready_for = record { fit = ready.fit; few = ready.few; flags_are = ready.flags_are; planned = ready.planned }

  -- the weights of a row, by the plan's sizes and by the state's
  pub weights_here : (row : ℕ) (weights : ℕ → X)
      → (RowsFit F plan.choice.sizes → row < plan.choice.sizes.data_rows + plan.choice.sizes.parity_rows → (source : ℕ) → source < plan.choice.sizes.data_rows + plan.choice.sizes.parity_rows
      → weights source ≡ weight_of F plan.choice.sizes.data_rows (flag plan.choice.damage) plan row source)
      → row < k s + p s → (source : ℕ) → source < k s + p s → weights source ≡ weight_of F (k s) (flag plan.choice.damage) plan row source
  weights_here row weights are h source l =
      let a = ready.data_rows_are in
      let b = ready.parity_rows_are in
      let rows = rows_fit F s ready.fit in
      let fits_too : RowsFit F plan.choice.sizes = record { few = rw a rows.few; four = rw b rows.four; room = rw a rows.room } in
      are fits_too (rw (a, b) h) source (rw (a, b) l) ∙ ap (λ (z : ℕ). weight_of F z (flag plan.choice.damage) plan row source) a

  -- a used parity row fits, used by the plan's sizes
  pub misfit_used : (blocks : ℕ → ℕ → X) → Worked F s blocks → (i : ℕ) → i < p s → sound F s (k s + i) ≡ true
      → ltb (counted i (λ h. flag plan.choice.damage (plan.choice.sizes.data_rows + h))) plan.choice.lost.count ≡ true
      → lowest (n s) (worked_misfit F s blocks i) ≡ None
  misfit_used blocks w i h e says =
      misfit_used_for F s plan.choice.damage plan ready_for blocks w i h e
      (subst (λ (z : ℕ). ltb (counted i (λ h. flag plan.choice.damage (z + h))) plan.choice.lost.count ≡ true) ready.data_rows_are says)
