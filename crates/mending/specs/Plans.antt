-- Which rows are used, and with which weights the symbols of rows that are not sound follow from rows that are.
use Rattle.std.specs.Prelude.{◌≡◌, ℕ, ◌+◌, ◌-◌, ◌<◌, ◌≤◌, Bool, true, cond, not, ◌&&◌, ◌==◌, nat_lt, List, [], take, slice_index, slice_index_or}
use Rattle.std.specs.List.{list_any}
use Rattle.algebra.specs.Algebra.{Field, minus}
use Rattle.algebra.specs.Sum.{sum_to}
use Rattle.algebra.specs.Theorems.{coefficient, Square, Solves}
use Rattle.rules.specs.Search.{counted}
use Rattle.rules.specs.States.{State, k, p, fits, sound, unsound_count}
use Rattle.mending.specs.declared.Damage.{Damage}
use Rattle.rules.specs.declared.Sizes.{Sizes}
use Rattle.mending.specs.declared.plans.Choice.{Choice}
use Rattle.mending.specs.declared.plans.Plan.{Plan}
use Rattle.mending.specs.Picked.{Picked}
use Rattle.mending.specs.Stored.{stored}

-- a row is none of those that were gathered as not sound
unfoldable pub flag : Damage → ℕ → Bool
flag damage row = not (list_any (λ unsound. unsound == row) (take damage.count damage.rows))

-- The damage of a state: how many rows are not sound, and, where they are at most four, which.
pub record Gathered {X : Type 0} (F : Field X) (s : State X) (damage : Damage) : Type 0 where
  pub rows : unsound_count F s ≤ 4 → (row : ℕ) → row < k s + p s → flag damage row ≡ sound F s row
  pub count : damage.count ≡ unsound_count F s

-- over k data rows, and the rows that are sound
module _ {X : Type 0} (F : Field X) (k : ℕ) (sound : ℕ → Bool) where
  abbrev pub lost : ℕ → Bool
  lost j = not (sound j)

  -- parity row i is one of the lowest sound parity rows, one for each data row that is not sound
  abbrev pub used_by : ℕ → Bool
  used_by i = sound (k + i) && nat_lt (counted i (λ h. sound (k + h))) (counted k lost)

  -- what row `row` counts on the right-hand side of parity row i's equation for the lost symbols
  abbrev pub share : ℕ → ℕ → X
  share i row = cond (nat_lt row k) (cond (sound row) (minus F F.zer (coefficient F i row)) F.zer) (cond (row == k + i) F.one F.zer)

-- the weight of a row in the lost data row of a rank
abbrev pub weight_in : {X : Type 0} → Field X → List (List ℕ) → ℕ → ℕ → X
weight_in F weights row rank = stored F (slice_index_or weights row []) rank

-- the rows keep their upper limits, and the field has a point for each row
pub record RowsFit {X : Type 0} (F : Field X) (sizes : Sizes) : Type 0 where
  pub few : sizes.data_rows ≤ 64
  pub four : sizes.parity_rows ≤ 4
  pub room : sizes.data_rows + 4 ≤ F.size

-- these weights of a row in the lost data rows solve the equations of the used parity rows, where those are as many and all are different
abbrev pub WorkedBy : {X : Type 0} → Field X → Choice → ℕ → List ℕ → Type 0
WorkedBy F choice row weights =
    RowsFit F choice.sizes → row < choice.sizes.data_rows + choice.sizes.parity_rows → Square F choice.sizes.data_rows choice.lost.count (slice_index choice.used.at) (slice_index choice.lost.at)
    → Solves F choice.lost.count (slice_index choice.used.at) (slice_index choice.lost.at) (λ a. share F choice.sizes.data_rows (flag choice.damage) (slice_index choice.used.at a) row) (stored F weights)

-- The lost data rows, at most four, and for each row weights that solve the equations of the used parity rows.
pub record Planned {X : Type 0} (F : Field X) (k p : ℕ) (sound : ℕ → Bool) (plan : Plan) : Type 0 where
  pub count : plan.choice.lost.count ≡ counted k (lost F k sound)
  pub picks : (b : ℕ) → b < plan.choice.lost.count → Picked k (lost F k sound) b (slice_index plan.choice.lost.at b)
  pub solves : (row i : ℕ) → row < k + p → i < p → used_by F k sound i ≡ true
      → sum_to F plan.choice.lost.count (λ b. F.mul (coefficient F i (slice_index plan.choice.lost.at b)) (weight_in F plan.weights row b)) ≡ share F k sound i row

-- the lost data rows are below a bound
abbrev pub LostBelow : ℕ → Plan → Type 0
LostBelow bound plan = (b : ℕ) → b < plan.choice.lost.count → slice_index plan.choice.lost.at b < bound

-- It is the plan for these sizes and this damage.
pub record PlannedFor {X : Type 0} (F : Field X) (sizes : Sizes) (damage : Damage) (plan : Plan) : Type 0 where
  pub sizes_are : plan.choice.sizes ≡ sizes
  pub damage_is : plan.choice.damage ≡ damage
  pub planned : Planned F sizes.data_rows sizes.parity_rows (flag damage) plan

-- A state that the plan can mend: it fits, no more rows are not sound than there are parity rows, and the plan is for as many data rows and parity
-- rows, and for the rows that are sound.
pub record Ready {X : Type 0} (F : Field X) (s : State X) (plan : Plan) : Type 0 where
  pub fit : fits F s ≡ true
  pub few : unsound_count F s ≤ p s
  pub data_rows_are : plan.choice.sizes.data_rows ≡ k s
  pub parity_rows_are : plan.choice.sizes.parity_rows ≡ p s
  pub flags_are : (row : ℕ) → row < k s + p s → flag plan.choice.damage row ≡ sound F s row
  pub planned : Planned F (k s) (p s) (flag plan.choice.damage) plan

-- A state that the plan can mend by the damage that goes beside it: the damage says which rows are sound, and the plan is for as many data rows and
-- parity rows, and for these. Which sizes and damage the plan itself holds is not asked.
pub record ReadyFor {X : Type 0} (F : Field X) (s : State X) (damage : Damage) (plan : Plan) : Type 0 where
  pub fit : fits F s ≡ true
  pub few : unsound_count F s ≤ p s
  pub flags_are : (row : ℕ) → row < k s + p s → flag damage row ≡ sound F s row
  pub planned : Planned F (k s) (p s) (flag damage) plan

-- the weight of row `source` in a lost data row, or in a parity row that is worked from the data rows
abbrev pub weight_of : {X : Type 0} → Field X → ℕ → (ℕ → Bool) → Plan → ℕ → ℕ → X
weight_of F k sound plan row source =
    cond (nat_lt row k)
    (weight_in F plan.weights source (counted row (lost F k sound)))
    (F.add
    (cond (nat_lt source k && sound source) (coefficient F (row - k) source) F.zer)
    (sum_to F plan.choice.lost.count (λ b. F.mul (coefficient F (row - k) (slice_index plan.choice.lost.at b)) (weight_in F plan.weights source b))))
