-- From the array's solution to the equations of the used parity rows.
use Rattle.std.proofs.Common.{◌≡◌, ℕ, ◌+◌, ◌<◌, ◌≤◌, Bool, true, ◌≢◌, sym, ap, ◌∙◌, ap₂, subst, List, get_or, arith}
use Rattle.std.proofs.lemmas.Bool.{and_parts, ltb-true}
use Rattle.algebra.specs.Algebra.{Field, minus}
use Rattle.algebra.specs.Sum.{sum_to}
use Rattle.algebra.specs.Cauchy.{solve}
use Rattle.algebra.specs.Theorems.{scale, coefficient, Square, Solves, solution}
use Rattle.algebra.proofs.Matrix.{exactly_one_solution}
use Rattle.algebra.proofs.Sums.{sum_below}
use Rattle.rules.specs.Search.{counted}
use Rattle.rules.proofs.Counted.{select, select_rank, counted_before}
use Rattle.mending.specs.declared.plans.Choice.{Choice}
use Rattle.mending.specs.Picked.{Picked}
use Rattle.mending.specs.Plans.{lost, used_by, share, weight_in, Planned}
use Rattle.mending.proofs.Solving.{solve_same}

module _ {A : Type 0} (F : Field A) where
  pub solved_by : (k r : ℕ) (rows columns : ℕ → ℕ) → Square F k r rows columns → (a b c c' y : ℕ → A)
      → ((i : ℕ) → i < r → a i ≡ F.element (rows i)) → ((j : ℕ) → j < r → b j ≡ F.element (4 + columns j)) → ((i : ℕ) → i < r → c i ≡ c' i)
      → ((j : ℕ) → j < r → y j ≡ F.mul (F.inv (minus F F.zer (b j))) (solve F r a b c j))
      → Solves F r rows columns c' y
  solved_by k r rows columns q a b c c' y ea eb ec ey i h =
      sum_below F r _ _ (λ j l. ap (F.mul (coefficient F (rows i) (columns j))) (is j l)) ∙ (exactly_one_solution F k r rows columns q c').0 i h
    where
      is : (j : ℕ) → j < r → y j ≡ solution F r rows columns c' j
      is j l =
          ey j l
          ∙ ap₂ (λ x z. F.mul (F.inv (minus F x z)) (solve F r a b c j)) (sym F.element_zero) (eb j l)
          ∙ ap (F.mul (F.inv (scale F (columns j)))) (solve_same F r _ _ _ _ _ _ ea eb ec j l)

-- the numbers picked are pairwise different
pub picked_differ : (bound : ℕ) (test : ℕ → Bool) (r : ℕ) (f : ℕ → ℕ) → ((b : ℕ) → b < r → Picked bound test b (f b)) → (i j : ℕ) → i < r → j < r → i ≢ j → f i ≢ f j
picked_differ bound test r f picks i j h l ne e = ne (sym (picks i h).rank ∙ ap (λ x. counted x test) e ∙ (picks j l).rank)

-- the one of a rank is the one picked there
pub picked_is : (bound : ℕ) (test : ℕ → Bool) (i c : ℕ) → Picked bound test (counted i test) c → i < bound → test i ≡ true → c ≡ i
picked_is bound test i c pick h e =
    let s = select_rank bound test c pick.below pick.passes in
    let t = select_rank bound test i h e in
    sym s ∙ ap (select bound test) pick.rank ∙ t

module _ {A : Type 0} (F : Field A) (k p : ℕ) (sound : ℕ → Bool) where
  pub square_of : (used lost_at : ℕ → ℕ) → k + 4 ≤ F.size → p ≤ 4 → counted k (lost F k sound) ≤ counted p (λ i. sound (k + i))
      → ((b : ℕ) → b < counted k (lost F k sound) → Picked k (lost F k sound) b (lost_at b))
      → ((a : ℕ) → a < counted p (λ i. sound (k + i)) → Picked p (λ i. sound (k + i)) a (used a))
      → Square F k (counted k (lost F k sound)) used lost_at
  square_of used lost_at room four enough bs us = record {
    room = room;
    rows_below = λ i h. let s = us i (omega arith) in omega (arith, s.below);
    columns_below = λ j h. (bs j h).below;
    rows_differ = λ i j h l ne. picked_differ p (λ i. sound (k + i)) (counted p (λ i. sound (k + i))) used us i j (omega arith) (omega arith) ne;
    columns_differ = λ i j h l ne. picked_differ k (lost F k sound) (counted k (lost F k sound)) lost_at bs i j h l ne;
  }

  -- the equations by parity row, from those by rank
  pub by_row : (used : ℕ → ℕ) → ((a : ℕ) → a < counted p (λ i. sound (k + i)) → Picked p (λ i. sound (k + i)) a (used a))
      → (P : ℕ → Type 0) → ((a : ℕ) → a < counted k (lost F k sound) → P (used a)) → (i : ℕ) → i < p → used_by F k sound i ≡ true → P i
  by_row used us P each i h e =
      let q = and_parts _ _ e in
      let rank = counted_before i p (λ i. sound (k + i)) h q.0 in
      subst P (picked_is p (λ i. sound (k + i)) i _ (us (counted i (λ i. sound (k + i))) rank) h q.0)
      (each (counted i (λ i. sound (k + i))) (ltb-true _ _ q.1))

  -- the weights solve the equations of the rows that are chosen
  abbrev pub Weights : Choice → List (List ℕ) → Type 0
  Weights choice weights =
      Square F k choice.lost.count (λ a. get_or choice.used.at a 0) (λ b. get_or choice.lost.at b 0) → (row : ℕ) → row < k + p
      → Solves F choice.lost.count (λ a. get_or choice.used.at a 0) (λ b. get_or choice.lost.at b 0) (λ a. share F k sound (get_or choice.used.at a 0) row) (weight_in F weights row)

  -- a plan, from the rows that are chosen and the weights that solve their equations
  pub planned_by : (choice : Choice) (weights : List (List ℕ)) → k + 4 ≤ F.size → p ≤ 4 → counted k (lost F k sound) ≤ counted p (λ i. sound (k + i))
      → choice.lost.count ≡ counted k (lost F k sound) → ((b : ℕ) → b < choice.lost.count → Picked k (lost F k sound) b (get_or choice.lost.at b 0))
      → choice.used.count ≡ counted p (λ i. sound (k + i)) → ((a : ℕ) → a < choice.used.count → Picked p (λ i. sound (k + i)) a (get_or choice.used.at a 0))
      → Weights choice weights → Planned F k p sound (record { choice = choice; weights = weights })
  planned_by choice weights room four enough losts bs useds us solved = record {
    count = losts;
    picks = bs;
    solves = λ row i h l e.
        by_row used_at us' (λ i. sum_to F choice.lost.count (λ b. F.mul (coefficient F i (lost_at b)) (weight_in F weights row b)) ≡ share F k sound i row)
        (λ a o. solved square row h a (omega (arith, losts))) i l e;
  }
    where
      used_at : ℕ → ℕ
      used_at a = get_or choice.used.at a 0

      lost_at : ℕ → ℕ
      lost_at b = get_or choice.lost.at b 0

      us' : (a : ℕ) → a < counted p (λ i. sound (k + i)) → Picked p (λ i. sound (k + i)) a (used_at a)
      us' a h = us a (omega (arith, useds))

      square : Square F k choice.lost.count used_at lost_at
      square = subst (λ c. Square F k c used_at lost_at) (sym losts) (square_of used_at lost_at room four enough (λ b h. bs b (omega (arith, losts))) us')
