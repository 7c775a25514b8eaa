-- What one changed index leaves of the contents of a memory.
use Rattle.std.proofs.Common.{◌≡◌, ℕ, zero, suc, ◌+◌, ◌*◌, ◌<◌, true, false, ◌&&◌, eqb, ◌≢◌, List, [], ◌∷◌, length, get_or, set, Some, None, sym, refl, ap, ◌∙◌, ap₂, arith, length-set, get_or-set_other, get_or-set_same}
use Rattle.shelves.specs.declared.Got.TheVariants.{Symbol}
use Rattle.shelves.specs.Contents.{Cell, symbol, within, inside, get_answer, with_cell, after_put}
use Rattle.shelves.specs.Memory.{stored, marked, sized, memory, spot_in}
use Rattle.shelves.proofs.Contents.{within_parts, none_within, cell_beyond, cell_filled, apart}
use Rattle.algebra.proofs.Cases.{by_cases}
use Rattle.std.proofs.lemmas.Bool.{and_parts}
use Rattle.std.proofs.lemmas.Option.{cond_some, none-some}

module _ {A : Type 0} where
  pub stored_same : (xs : List A) (i : ℕ) (x : A) → i < length xs → stored (set xs i x) i ≡ symbol x
  stored_same [] i x h = absurd (omega arith)
  stored_same (y ∷ ys) zero x h = refl
  stored_same (y ∷ ys) (suc i) x h = stored_same ys i x (omega arith)

  pub stored_other : (xs : List A) (i j : ℕ) (x : A) → j ≢ i → stored (set xs i x) j ≡ stored xs j
  stored_other [] i j x h = refl
  stored_other (y ∷ ys) zero zero x h = absurd (h refl)
  stored_other (y ∷ ys) zero (suc j) x h = refl
  stored_other (y ∷ ys) (suc i) zero x h = refl
  stored_other (y ∷ ys) (suc i) (suc j) x h = stored_other ys i j x (λ e. h (ap suc e))

  pub stored_is : (xs : List A) (i : ℕ) (d : A) → i < length xs → stored xs i ≡ symbol (get_or xs i d)
  stored_is [] i d h = absurd (omega arith)
  stored_is (y ∷ ys) zero d h = refl
  stored_is (y ∷ ys) (suc i) d h = stored_is ys i d (omega arith)

  module _ (rows places : ℕ) (xs : List A) (ms : List ℕ) (row place : ℕ) where
    -- what a known index says of the sizes
    pub found : (i : ℕ) → Some i ≡ spot_in rows places xs ms row place → (sized rows places xs ms ≡ true) × (within rows places row place ≡ true) × (i ≡ row * places + place)
    found i e =
        let f = cond_some (sized rows places xs ms && within rows places row place) (row * places + place) i (sym e) in
        let q = and_parts _ _ f.0 in
        (q.0, q.1, sym f.1)

    pub missing : None ≡ spot_in rows places xs ms row place → inside (memory rows places xs ms) row place ≡ false
    missing e =
        by_cases (sized rows places xs ms)
        (λ s. by_cases (within rows places row place)
        (λ w. absurd (none-some (row * places + place) (rw (s, w) at e)))
        (λ w. rw s w))
        (λ s. rw s (none_within row place))

    pub got_symbol : (i : ℕ) (d : A) → Some i ≡ spot_in rows places xs ms row place → i < length xs → get_or ms i 0 ≡ 1
        → Symbol (get_or xs i d) ≡ get_answer (memory rows places xs ms) row place
    got_symbol i d e h m =
        let f = found i e in
        let c : marked (get_or ms i 0) (stored xs i) ≡ symbol (get_or xs i d) = rw m (stored_is xs i d h) in
        let k : marked (get_or ms (row * places + place) 0) (stored xs (row * places + place)) ≡ symbol (get_or xs i d) = ap (λ j. marked (get_or ms j 0) (stored xs j)) (sym f.2) ∙ c in
        let s = f.0 in
        let w = f.1 in
        rw (s, w, k)

    pub unchanged : (cell : Cell A) → None ≡ spot_in rows places xs ms row place → memory rows places xs ms ≡ with_cell (memory rows places xs ms) row place cell
    unchanged cell e = sym (cell_beyond (memory rows places xs ms) row place cell (missing e))

    -- memory in which one index changed
    pub changed : (ys : List A) (ns : List ℕ) (i : ℕ) → Some i ≡ spot_in rows places xs ms row place → length ys ≡ length xs → length ns ≡ length ms
        → ((j : ℕ) → j ≢ i → marked (get_or ns j 0) (stored ys j) ≡ marked (get_or ms j 0) (stored xs j))
        → memory rows places ys ns ≡ with_cell (memory rows places xs ms) row place (marked (get_or ns i 0) (stored ys i))
    changed ys ns i e k l others =
        let f = found i e in
        let s = f.0 in
        let w = f.1 in
        let t : sized rows places ys ns ≡ true = rw (k, l) s in
        let here : marked (get_or ns (row * places + place) 0) (stored ys (row * places + place)) ≡ marked (get_or ns i 0) (stored ys i) = ap (λ j. marked (get_or ns j 0) (stored ys j)) (sym f.2) in
        let away : (r c : ℕ) → within rows places r c ≡ true → (eqb r row && eqb c place) ≡ false
        → marked (get_or ns (r * places + c) 0) (stored ys (r * places + c)) ≡ marked (get_or ms (r * places + c) 0) (stored xs (r * places + c)) = λ r c v n.
        others (r * places + c) (λ z. apart places r c row place (within_parts rows places r c v).1 (within_parts rows places row place w).1 n (z ∙ f.2)) in
        rw (t, s) (cell_filled rows places _ _ row place _ here away)

    pub put_changed : (i : ℕ) (x : A) → Some i ≡ spot_in rows places xs ms row place → i < length xs → i < length ms
        → memory rows places (set xs i x) (set ms i 1) ≡ after_put (memory rows places xs ms) row place x
    put_changed i x e h k =
        let here : marked (get_or (set ms i 1) i 0) (stored (set xs i x) i) ≡ symbol x = rw (get_or-set_same ms i 1 0 k) (stored_same xs i x h) in
        changed (set xs i x) (set ms i 1) i e (length-set xs i x) (length-set ms i 1) (λ j n. ap₂ marked (get_or-set_other ms i j 1 0 n) (stored_other xs i j x n))
        ∙ ap (with_cell (memory rows places xs ms) row place) here
