-- How a table moves when one symbol of one data row does.
use Rattle.std.proofs.Common.{◌≡◌, ℕ, ◌-◌, ◌<◌, ◌≤◌, ◌≢◌, ◌⊎◌, refl, inl, inr, arith}
use mathlib.Core.Path.{fun_ext}
use Rattle.std.proofs.lemmas.Bool.{lt-ltb, le-ltb, eq-eqb, ne_eqb, cases_lt}
use Rattle.algebra.specs.Algebra.{Field, power}
use Rattle.algebra.proofs.Ring.{one-mul}
use Rattle.rules.specs.Codes.{base, table, table_block}
use Rattle.algebra.specs.Theorems.{coefficient}
use Rattle.rules.specs.States.{State, k, n}
use Rattle.rules.specs.Updates.{own_change, weight}
use Rattle.rules.proofs.Tables.{sum_shift, combination_same}

module _ {X : Type 0} (F : Field X) (s : State X) where
  -- the rows that a write to data row `row` touches
  abbrev pub Touched : ℕ → ℕ → Type 0
  Touched row r = (r ≡ row) ⊎ (k s ≤ r)

  abbrev block_of : (ℕ → ℕ → X) → ℕ → ℕ → X
  block_of = table_block F (k s)

  -- a data row that keeps its block keeps its row of the table
  pub row_rests : (blocks blocks' : ℕ → ℕ → X) (r : ℕ) → r < k s → ((place : ℕ) → blocks' r place ≡ blocks r place)
      → (place : ℕ) → table F (k s) (n s) blocks' r place ≡ table F (k s) (n s) blocks r place
  row_rests blocks blocks' r h e place = rw (lt-ltb r (k s) h, fun_ext e)

  module _ (blocks blocks' : ℕ → ℕ → X) (row t : ℕ) (d : X) (h : row < k s) (l : t < n s)
      (here : blocks' row t ≡ F.add (blocks row t) d) (there : (j place : ℕ) → (j ≡ row → place ≡ t → ⊥) → blocks' j place ≡ blocks j place) where
    block_moves : (r : ℕ) → Touched row r → block_of blocks' r t ≡ F.add (block_of blocks r t) (own_change F s row d r)
    block_moves r (inl e) = rw (e, lt-ltb row (k s) h, eq-eqb row row refl) here
    block_moves r (inr more) =
        rw (le-ltb r (k s) more, ne_eqb r row (omega arith))
        (sum_shift F (k s) (coefficient F (r - k s)) (λ j. blocks j t) (λ j. blocks' j t) row d h here (λ j lj ne. there j t (λ e _. ne e)))

    block_rests : (r place : ℕ) → place ≢ t → block_of blocks' r place ≡ block_of blocks r place
    block_rests r place ne =
        elim (cases_lt r (k s)) [
          | inl less ↦ rw (lt-ltb r (k s) less) (there r place (λ _ e. ne e))
          | inr more ↦ rw (le-ltb r (k s) more) (combination_same F (k s) _ _ _ (λ j lj. there j place (λ _ e. ne e)))
        ]

    pub table_moves : (r place : ℕ) → Touched row r → (place ≡ t) ⊎ (n s ≤ place)
        → table F (k s) (n s) blocks' r place ≡ F.add (table F (k s) (n s) blocks r place) (F.mul (weight F s t place) (own_change F s row d r))
    table_moves r place touched (inl e) = rw (e, lt-ltb t (n s) l, one-mul F (own_change F s row d r)) (block_moves r touched)
    table_moves r place touched (inr more) =
        rw (le-ltb place (n s) more)
        (sum_shift F (n s) (power F (base F (place - n s))) (block_of blocks r) (block_of blocks' r) t _ l (block_moves r touched) (λ i li ne. block_rests r i ne))

    pub table_rests : (r place : ℕ) → place < n s → place ≢ t → table F (k s) (n s) blocks' r place ≡ table F (k s) (n s) blocks r place
    table_rests r place less ne = rw (lt-ltb place (n s) less) (block_rests r place ne)
