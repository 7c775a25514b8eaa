-- What an accepted write leaves.
use Rattle.std.proofs.Common.{◌≡◌, ℕ, ◌+◌, ◌-◌, ◌<◌, ◌≤◌, true, false, cond, not, ◌&&◌, eqb, ltb, leb, ◌≢◌, ◌⊎◌, List, [], ◌∷◌, length, get_or, map, sym, refl, ap, ◌∙◌, inl, inr, arith}
use Rattle.std.proofs.lemmas.Bool.{true_from_ne_false, cases_lt, cases_eq, le-ltb, lt-ltb, not-false}
use Rattle.std.proofs.lemmas.Bool.Decides.{nat_tests}
use Rattle.algebra.specs.Algebra.{Field, power, minus}
use Rattle.algebra.specs.Theorems.{coefficient}
use Rattle.algebra.proofs.Ring.{add_assoc, add_comm, add_cancel, add-neg, sub-add, sub-zero, one-mul}
use Rattle.shelves.specs.Contents.{Cell, symbol}
use Rattle.shelves.proofs.Contents.{filled_same}
use Rattle.rules.specs.Calls.{write}
use Rattle.rules.specs.Codes.{base}
use Rattle.rules.specs.Exact.{Whole}
use Rattle.rules.specs.Promises.{Line, unfit, no_write, long_write, bad_write, bad_parity, accepted, did_write}
use Rattle.rules.specs.States.{State, symbol_or, k, p, n, m, cell, with_cells, symbol_at, fits, sound}
use Rattle.rules.specs.Twins.{overwritten}
use Rattle.rules.specs.Updates.{allowed, touched, grow, own_change, weight, written_one, written}
use Rattle.rules.specs.Writes.{miss, Wrote, WriteExact}
use Rattle.rules.specs.declared.Refusal.{Refusal}
use Rattle.rules.proofs.Found.{nothing, lowest_none}
use Rattle.rules.proofs.Moves.{Touched}
use Rattle.rules.proofs.Rows.{cell_inside, read_back, sound_means}
use Rattle.rules.proofs.Tables.{sum_shift, component_same, combination_same}
use Rattle.rules.proofs.Writing.{one_there, one_here, none_over, more_over, spot, written_rests}

-- a row that holds what a whole row holds is whole
whole_held : {X : Type 0} (F : Field X) (n m : ℕ) (held held' : ℕ → Cell X) → ((place : ℕ) → place < n + m → held' place ≡ held place) → Whole F n m held → Whole F n m held'
whole_held F n m held held' same w = record {
  symbols = λ place l. ((w.symbols place l).0, same place l ∙ (w.symbols place l).1);
  card = λ c l. ap (symbol_or F.zer) (same (n + c) (omega arith)) ∙ w.card c l
      ∙ component_same F n _ _ c (λ i o. ap (symbol_or F.zer) (sym (same i (omega arith))));
}

-- both grow by as much
minus_grown : {X : Type 0} (F : Field X) (a b d : X) → minus F (F.add a d) (F.add b d) ≡ minus F a b
minus_grown F a b d =
    add_cancel F _ _ (F.add b d)
    (sub-add F (F.add a d) (F.add b d) ∙ sym (sym (add_assoc F (minus F a b) b d) ∙ ap (λ y. F.add y d) (sub-add F a b)))

module _ {X : Type 0} (F : Field X) (s : State X) (row : ℕ) (h : row < k s) where
  abbrev held : (ℕ → ℕ → Cell X) → ℕ → ℕ → X
  held cells r place = symbol_or F.zer (cells r place)

  -- the rows that a write touches are whole
  abbrev Clean : (ℕ → ℕ → Cell X) → Type 0
  Clean cells = (r : ℕ) → Touched F s row r → r < k s + p s → Whole F (n s) (m s) (cells r)

  module _ (cells : ℕ → ℕ → Cell X) (t : ℕ) (x : X) (l : t < n s) (clean : Clean cells) where
    abbrev after : ℕ → ℕ → Cell X
    after = written_one F s row t x cells

    abbrev change : ℕ → X
    change r = own_change F s row (minus F x (held cells row t)) r

    moves : (r place : ℕ) → Touched F s row r → r < k s + p s → place < n s + m s → (place ≡ t) ⊎ (n s ≤ place)
        → after r place ≡ symbol (F.add (held cells r place) (F.mul (weight F s t place) (change r)))
    moves r place touches hr lp at =
        let is : touched s row t r place ≡ true = grind (arith, nat_tests) in
        rw is (ap (grow F s _) (read_back F.zer ((clean r touches hr).symbols place lp)))

    rests : (r place : ℕ) → place < n s → place ≢ t → after r place ≡ cells r place
    rests r place less ne =
        let is : touched s row t r place ≡ false = grind (arith, nat_tests) in
        rw is

    far : (r place : ℕ) → r < k s → r ≢ row → after r place ≡ cells r place
    far r place less ne =
        let is : touched s row t r place ≡ false = grind (arith, nat_tests) in
        rw is

    moves_here : (r : ℕ) → Touched F s row r → r < k s + p s → held after r t ≡ F.add (held cells r t) (change r)
    moves_here r touches hr =
        ap (symbol_or F.zer) (moves r t touches hr (omega arith) (inl refl)) ∙ rw (lt-ltb t (n s) l, one-mul F (change r))

    moves_card : (r c : ℕ) → Touched F s row r → r < k s + p s → c < m s
        → held after r (n s + c) ≡ F.add (held cells r (n s + c)) (F.mul (power F (base F c) t) (change r))
    moves_card r c touches hr lc =
        let e : n s + c - n s ≡ c = omega arith in
        ap (symbol_or F.zer) (moves r (n s + c) touches hr (omega arith) (inr (omega arith))) ∙ rw (le-ltb (n s + c) (n s) (omega arith), e)

    clean_one : Clean after
    clean_one r touches hr = record {
      symbols = λ place lp. elim (spot place t (n s)) [
        | inl at ↦ (_, moves r place touches hr lp at)
        | inr rest ↦ let w = (clean r touches hr).symbols place lp in (w.0, rests r place rest.0 rest.1 ∙ w.1)
      ];
      card = λ c lc.
          moves_card r c touches hr lc ∙ ap (λ y. F.add y (F.mul (power F (base F c) t) (change r))) ((clean r touches hr).card c lc)
          ∙ sym (sum_shift F (n s) (power F (base F c)) (held cells r) (held after r) t (change r) l (moves_here r touches hr)
          (λ i li ne. ap (symbol_or F.zer) (rests r i li ne)));
    }

    own_row : change row ≡ minus F x (held cells row t)
    own_row = grind (arith, nat_tests)

    own_parity : (i : ℕ) → change (k s + i) ≡ F.mul (coefficient F i row) (minus F x (held cells row t))
    own_parity i = let e : k s + i - k s ≡ i = omega arith in grind (arith, nat_tests)

    miss_one : (i place : ℕ) → i < p s → place < n s → miss F (k s) (held after) i place ≡ miss F (k s) (held cells) i place
    miss_one i place hi lp =
        elim (cases_eq place t) [
          | inl e ↦ rw e (
              rw (
                moves_here (k s + i) (inr (omega arith)) (omega arith),
                own_parity i,
                sum_shift F (k s) (coefficient F i) (λ j. held cells j t) (λ j. held after j t) row (minus F x (held cells row t)) h
                    (moves_here row (inl refl) (omega arith) ∙ ap (F.add _) own_row) (λ j lj ne. ap (symbol_or F.zer) (far j t lj ne)),
              )
              (minus_grown F _ _ _))
          | inr ne ↦
              rw (rests (k s + i) place lp ne)
              (ap (minus F _) (combination_same F (k s) _ _ i (λ j lj. ap (symbol_or F.zer) (rests j place lp ne))))
        ]

    block_one : (j place : ℕ) → j < k s → place < n s → after j place ≡ overwritten cells row t (symbol x ∷ []) j place
    block_one j place lj lp =
        elim (cases_eq j row) [
          | inr ne ↦ far j place lj ne ∙ sym (one_there cells row t (symbol x) j place (λ e _. ne e))
          | inl same ↦ elim (cases_eq place t) [
            | inr ne ↦ rests j place lp ne ∙ sym (one_there cells row t (symbol x) j place (λ _ e. ne e))
            | inl e ↦ rw (same, e) (
                moves row t (inl refl) (omega arith) (omega arith) (inl refl)
                ∙ ap symbol (rw (lt-ltb t (n s) l, one-mul F (change row), own_row) (add_comm F _ _ ∙ sub-add F x (held cells row t)))
                ∙ sym (one_here cells row t (symbol x)))
          ]
        ]

  clean_all : (xs : List X) (cells : ℕ → ℕ → Cell X) (t : ℕ) → t + length xs ≤ n s → Clean cells → Clean (written F s row t xs cells)
  clean_all [] cells t l clean = clean
  clean_all (x ∷ xs) cells t l clean = clean_all xs (written_one F s row t x cells) (t + 1) (omega arith) (clean_one cells t x (omega arith) clean)

  miss_all : (xs : List X) (cells : ℕ → ℕ → Cell X) (t : ℕ) → t + length xs ≤ n s → Clean cells → (i place : ℕ) → i < p s → place < n s
      → miss F (k s) (held (written F s row t xs cells)) i place ≡ miss F (k s) (held cells) i place
  miss_all [] cells t l clean i place hi lp = refl
  miss_all (x ∷ xs) cells t l clean i place hi lp =
      miss_all xs (written_one F s row t x cells) (t + 1) (omega arith) (clean_one cells t x (omega arith) clean) i place hi lp
      ∙ miss_one cells t x (omega arith) clean i place hi lp

  block_all : (xs : List X) (cells : ℕ → ℕ → Cell X) (t : ℕ) → t + length xs ≤ n s → Clean cells → (j place : ℕ) → j < k s → place < n s
      → written F s row t xs cells j place ≡ overwritten cells row t (map symbol xs) j place
  block_all [] cells t l clean j place lj lp = ap (λ f. f j place) (sym (none_over cells row t))
  block_all (x ∷ xs) cells t l clean j place lj lp =
      let more : List (Cell X) = map symbol xs in
      block_all xs (written_one F s row t x cells) (t + 1) (omega arith) (clean_one cells t x (omega arith) clean) j place lj lp
      ∙ ap (λ y. cond (eqb j row && leb (t + 1) place && ltb place (t + 1 + length more)) (get_or more (place - (t + 1)) y) y)
      (block_one cells t x (omega arith) clean j place lj lp)
      ∙ ap (λ f. f j place) (more_over cells row t (symbol x) more)

module _ {X : Type 0} (F : Field X) (s : State X) (row start : ℕ) (xs : List X) (none : (q : Refusal) → Line F s (write row start xs) q → ⊥) where
  fit : fits F s ≡ true
  fit = true_from_ne_false _ (λ e. none _ (unfit _ e))

  of_data : row < k s
  of_data = elim (cases_lt row (k s)) [ inl less ↦ less | inr more ↦ absurd (none _ (no_write row start xs more)) ]

  sound_row : sound F s row ≡ true
  sound_row = true_from_ne_false _ (λ e. none _ (bad_write row start xs e))

  sound_parity : (i : ℕ) → i < p s → sound F s (k s + i) ≡ true
  sound_parity i hi =
      not-false _ (lowest_none (p s) (λ h. not (sound F s (k s + h))) (nothing _ λ j e. none _ (bad_parity row start xs j sound_row e)) i hi)

  room : start + length xs ≤ n s
  room = let is : allowed s start (length xs) ≡ true = true_from_ne_false _ (λ e. none _ (long_write row start xs e)) in grind (arith, nat_tests, is)

  clean : Clean F s row of_data (cell s)
  clean r touches hr = (sound_means F s r).0 (elim touches [
    | inl e ↦ rw e sound_row
    | inr more ↦ let e : k s + (r - k s) ≡ r = omega arith in rw e at (sound_parity (r - k s) (omega arith))
  ])

  abbrev cells : ℕ → ℕ → Cell X
  cells = written F s row start xs (cell s)

  abbrev s' : State X
  s' = with_cells s cells

  stands : (r place : ℕ) → r < k s + p s → place < n s + m s → cell s' r place ≡ cells r place
  stands = cell_inside F s fit cells

  miss_stands : (i place : ℕ) → i < p s → place < n s → miss F (k s) (symbol_at F s') i place ≡ miss F (k s) (symbol_at F s) i place
  miss_stands i place hi lp =
      rw (stands (k s + i) place (omega arith) (omega arith))
      (ap (minus F _) (combination_same F (k s) _ _ i (λ j lj. ap (symbol_or F.zer) (stands j place (omega arith) (omega arith)))))
      ∙ miss_all F s row of_data xs (cell s) start room clean i place hi lp

  whole_after : (r : ℕ) → r < k s + p s → sound F s r ≡ true → Whole F (n s) (m s) (cells r)
  whole_after r hr is =
      elim (cases_eq r row) [
        | inl e ↦ clean_all F s row of_data xs (cell s) start room clean r (inl e) hr
        | inr ne ↦ elim (cases_lt r (k s)) [
          | inl less ↦ whole_held F (n s) (m s) (cell s r) (cells r) (λ place _. written_rests F s row of_data xs (cell s) start r less ne place) ((sound_means F s r).0 is)
          | inr more ↦ clean_all F s row of_data xs (cell s) start room clean r (inr more) hr
        ]
      ]

  wrote : Wrote F s row start xs s'
  wrote = record {
    blocks = λ j place lj lp. stands j place (omega arith) (omega arith) ∙ block_all F s row of_data xs (cell s) start room clean j place lj lp;
    others = λ j place lj ne. filled_same s.contents cells j place (written_rests F s row of_data xs (cell s) start j lj ne place);
    parity = miss_stands;
    agreeing = λ i place hi lp e. sub-zero F _ _ (miss_stands i place hi lp ∙ rw e (add-neg F _));
    cards = λ r hr is. (sound_means F s' r).1 (whole_held F (n s) (m s) (cells r) (cell s' r) (λ place l. stands r place hr l) (whole_after r hr is));
  }

pub write_exact : {X : Type 0} (F : Field X) → WriteExact F
write_exact F s row start xs _ (accepted none (did_write _ _ _)) = wrote F s row start xs none
