-- A write that the twin takes.
use Rattle.std.proofs.Common.{◌≡◌, ℕ, suc, ◌+◌, ◌-◌, ◌<◌, ◌≤◌, true, false, ◌≢◌, ◌⊎◌, List, [], ◌∷◌, length, sym, refl, ap, ◌∙◌, subst, inl, inr, arith}
use mathlib.Core.Path.{fun_ext}
use Rattle.std.proofs.lemmas.Bool.{cases_lt, cases_eq}
use Rattle.std.proofs.lemmas.Bool.Decides.{nat_tests}
use Rattle.algebra.specs.Algebra.{Field}
use Rattle.algebra.proofs.Ring.{add_comm, sub-add}
use Rattle.shelves.specs.Contents.{Cell, symbol}
use Rattle.algebra.specs.Algebra.{minus}
use Rattle.rules.specs.States.{State, k, p, n, m, cell, with_cells}
use Rattle.rules.specs.Updates.{touched, written_one, written}
use Rattle.rules.specs.Twins.{overwritten, Equal, EqualRow, Takes, twin_at}
use Rattle.rules.proofs.Tables.{table_place, block_data}
use Rattle.rules.proofs.Kept.{Kept, Unmoved, kept_moved}
use Rattle.rules.proofs.Moves.{Touched, row_rests, table_moves, table_rests}

module _ {X : Type 0} where
  pub one_there : (blocks : ℕ → ℕ → X) (row t : ℕ) (x : X) (j place : ℕ) → (j ≡ row → place ≡ t → ⊥) → overwritten blocks row t (x ∷ []) j place ≡ blocks j place
  one_there blocks row t x j place ne = grind (arith, nat_tests)

  pub one_here : (blocks : ℕ → ℕ → X) (row t : ℕ) (x : X) → overwritten blocks row t (x ∷ []) row t ≡ x
  one_here blocks row t x = let z : t - t ≡ 0 = omega arith in grind (arith, nat_tests)

  pub none_over : (blocks : ℕ → ℕ → X) (row t : ℕ) → overwritten blocks row t [] ≡ blocks
  none_over blocks row t = fun_ext λ j. fun_ext λ place. grind (arith, nat_tests)

  pub more_over : (blocks : ℕ → ℕ → X) (row t : ℕ) (x : X) (xs : List X) → overwritten (overwritten blocks row t (x ∷ [])) row (t + 1) xs ≡ overwritten blocks row t (x ∷ xs)
  more_over blocks row t x xs = fun_ext λ j. fun_ext λ place.
      elim (cases_lt t place) [
        | inl more ↦ let z : place - t ≡ suc (place - (t + 1)) = omega arith in grind (arith, nat_tests)
        | inr less ↦ grind (arith, nat_tests)
      ]

  over_rests : (blocks : ℕ → ℕ → X) (row t : ℕ) (xs : List X) (r : ℕ) → r ≢ row → (place : ℕ) → overwritten blocks row t xs r place ≡ blocks r place
  over_rests blocks row t xs r ne place = grind (arith, nat_tests)

pub spot : (place t n : ℕ) → ((place ≡ t) ⊎ (n ≤ place)) ⊎ ((place < n) × (place ≢ t))
spot place t n =
    elim (cases_lt place n) [
      | inl less ↦ elim (cases_eq place t) [ inl e ↦ inl (inl e) | inr ne ↦ inr (less, ne) ]
      | inr more ↦ inl (inr more)
    ]

module _ {X : Type 0} (F : Field X) (s : State X) (row : ℕ) (h : row < k s) where
  -- the rows that a write touches all equal their twins
  abbrev Clear : (ℕ → ℕ → X) → (ℕ → ℕ → Cell X) → Type 0
  Clear blocks cells = (r : ℕ) → Touched F s row r → r < k s + p s → Equal (n s) (m s) (cells r) (twin_at F blocks s r)

  clear_one : (blocks : ℕ → ℕ → X) (cells : ℕ → ℕ → Cell X) (t : ℕ) (x : X) → t < n s → Clear blocks cells
      → Clear (overwritten blocks row t (x ∷ [])) (written_one F s row t x cells)
  clear_one blocks cells t x l clear r touches hr place lp =
      let after : ℕ → ℕ → X = overwritten blocks row t (x ∷ []) in
      let d : X = minus F x (blocks row t) in
      let here : cells row t ≡ symbol (blocks row t) =
      clear row (inl refl) (omega arith) t (omega arith) ∙ ap symbol (table_place F (k s) blocks (n s) row t l ∙ block_data F (k s) blocks row t h) in
      let change : after row t ≡ F.add (blocks row t) d = one_here blocks row t x ∙ sym (add_comm F _ _ ∙ sub-add F x (blocks row t)) in
      elim (spot place t (n s)) [
        | inl moves ↦
            let is : touched s row t r place ≡ true = grind (arith, nat_tests) in
            rw (is, here, clear r touches hr place lp)
            (ap symbol (sym (table_moves F s blocks after row t d h l change (one_there blocks row t x) r place touches moves)))
        | inr rests ↦
            let is : touched s row t r place ≡ false = grind (arith, nat_tests) in
            rw (is, clear r touches hr place lp)
            (ap symbol (sym (table_rests F s blocks after row t d h l change (one_there blocks row t x) r place rests.0 rests.1)))
      ]

  clear_all : (xs : List X) (blocks : ℕ → ℕ → X) (cells : ℕ → ℕ → Cell X) (t : ℕ) → t + length xs ≤ n s → Clear blocks cells
      → Clear (overwritten blocks row t xs) (written F s row t xs cells)
  clear_all [] blocks cells t l clear = subst (λ b. Clear b cells) (sym (none_over blocks row t)) clear
  clear_all (x ∷ xs) blocks cells t l clear =
      subst (λ b. Clear b (written F s row t (x ∷ xs) cells)) (more_over blocks row t x xs)
      (clear_all xs (overwritten blocks row t (x ∷ [])) (written_one F s row t x cells) (t + 1) (omega arith) (clear_one blocks cells t x (omega arith) clear))

  -- the other data rows stay as they are
  pub written_rests : (xs : List X) (cells : ℕ → ℕ → Cell X) (t r : ℕ) → r < k s → r ≢ row → (place : ℕ) → written F s row t xs cells r place ≡ cells r place
  written_rests [] cells t r l ne place = refl
  written_rests (x ∷ xs) cells t r l ne place =
      let is : touched s row t r place ≡ false = grind (arith, nat_tests) in
      written_rests xs (written_one F s row t x cells) (t + 1) r l ne place ∙ rw is

module _ {X : Type 0} (F : Field X) (blocks : ℕ → ℕ → X) (s : State X) (kept : Kept F blocks s) where
  module _ (row start : ℕ) (xs : List X) (takes : Takes F blocks s row start xs) where
    clear_before : (r : ℕ) → Touched F s row r → r < k s + p s → EqualRow F blocks s r
    clear_before r touches l =
        elim (kept.each_row r l) [
          | inl equal ↦ equal
          | inr struck ↦ absurd (elim touches [
            | inl e ↦ takes.row_clear (rw e at struck)
            | inr more ↦ let e : k s + (r - k s) ≡ r = omega arith in takes.parity_clear (r - k s) (omega arith) (rw e struck)
          ])
        ]

    abbrev over : ℕ → ℕ → X
    over = overwritten blocks row start xs

    abbrev cells : ℕ → ℕ → Cell X
    cells = written F s row start xs (cell s)

    -- the rows that a write touches equal their twins after it
    write_clears : (r : ℕ) → Touched F s row r → r < k s + p s → Equal (n s) (m s) (cells r) (twin_at F over s r)
    write_clears =
        let room : start + length xs ≤ n s = grind (arith, nat_tests, takes.spans) in
        clear_all F s row takes.of_data xs blocks (cell s) start room clear_before

    -- the others stay as they were, and so do their twins
    write_rests : (r : ℕ) → r < k s → r ≢ row → Unmoved F blocks s kept over cells r
    write_rests r l ne place =
        (written_rests F s row takes.of_data xs (cell s) start r l ne place, row_rests F s blocks over r l (over_rests blocks row start xs r ne) place)

    pub write_kept : Kept F over (with_cells s cells)
    write_kept =
        kept_moved F blocks s kept over cells
        (λ r l. elim (cases_lt r (k s)) [
          | inl less ↦ elim (cases_eq r row) [ inl e ↦ inl (write_clears r (inl e) l) | inr ne ↦ inr (write_rests r less ne) ]
          | inr more ↦ inl (write_clears r (inr more) l)
        ])
