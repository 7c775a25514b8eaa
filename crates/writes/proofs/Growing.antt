-- Growing cells: one put after the other, and what they come to.
use Rattle.std.proofs.Common.{◌≡◌, ℕ, subst, zero, suc, ◌+◌, ◌-◌, ◌<◌, Bool, true, false, cond, ◌&&◌, ◌||◌, eqb, ltb, leb, sym, refl, ap, ◌∙◌, ap₂, inl, inr, arith, eq-eqb, eqb-true, lt-ltb, le-leb, le-ltb}
use mathlib.Core.Path.{fun_ext}
use Rattle.std.proofs.lemmas.Bool.{cases_eq, and_parts}
use Rattle.std.proofs.lemmas.Bool.Decides.{nat_tests}
use Rattle.algebra.specs.Algebra.{Field, power}
use Rattle.algebra.specs.Theorems.{coefficient}
use Rattle.algebra.proofs.Cases.{by_cases, and_both}
use Rattle.algebra.proofs.Ring.{one-mul}
use Rattle.shelves.specs.Contents.{Contents, Cell, symbol, hole, is_hole, inside, after_put}
use Rattle.shelves.proofs.Contents.{put_cell}
use Rattle.rules.specs.Codes.{base}
use Rattle.rules.specs.States.{State, k, p, n, m, symbol_or, fits}
use Rattle.rules.specs.Updates.{grow, weight, own_change, written_one}
use Rattle.rules.specs.Views.{seen, seen_cell, same_hole, element_at}
use Rattle.rules.specs.declared.Sizes.{Sizes}
use Rattle.rules.proofs.Rows.{fitting}
use Rattle.writes.specs.Steps.{place_grown, card_grown, row_grown, rows_grown, cells_of, Puts, Readable}

module _ {A : Type 0} (F : Field A) (s : State A) where
  hole_grown : (d : A) (c : Cell A) → is_hole (grow F s d c) ≡ is_hole c
  hole_grown d (symbol x) = refl
  hole_grown d hole = refl

  pub hole_chosen : (b : Bool) (d : A) (c : Cell A) → is_hole (cond b (grow F s d c) c) ≡ is_hole c
  hole_chosen true d c = hole_grown d c
  hole_chosen false d c = refl

  pub place_hole : (row t : ℕ) (d : A) (cells : ℕ → ℕ → Cell A) (r u : ℕ) → is_hole (place_grown F s row t d cells r u) ≡ is_hole (cells r u)
  place_hole row t d cells r u = hole_chosen (eqb r row && eqb u t) d (cells r u)

  pub card_hole : (row t : ℕ) (d : A) (count : ℕ) (cells : ℕ → ℕ → Cell A) (r u : ℕ) → is_hole (card_grown F s row t d count cells r u) ≡ is_hole (cells r u)
  card_hole row t d count cells r u = hole_chosen (eqb r row && leb (n s) u && ltb u (n s + count)) (F.mul (weight F s t u) d) (cells r u)

  pub row_hole : (row t : ℕ) (d : A) (cells : ℕ → ℕ → Cell A) (r u : ℕ) → is_hole (row_grown F s row t d cells r u) ≡ is_hole (cells r u)
  row_hole row t d cells r u = card_hole row t d (m s) (place_grown F s row t d cells) r u ∙ place_hole row t d cells r u

  pub rows_hole : (row t : ℕ) (d : A) (count : ℕ) (cells : ℕ → ℕ → Cell A) (r u : ℕ) → is_hole (rows_grown F s row t d count cells r u) ≡ is_hole (cells r u)
  rows_hole row t d zero cells r u = row_hole row t d cells r u
  rows_hole row t d (suc i) cells r u = row_hole (k s + i) t (F.mul (coefficient F i row) d) (rows_grown F s row t d i cells) r u ∙ rows_hole row t d i cells r u

  -- a place counts in a component with its power
  pub card_weight : (t c : ℕ) → weight F s t (n s + c) ≡ power F (base F c) t
  card_weight t c = let at : n s + c - n s ≡ c = omega arith in rw (le-ltb (n s + c) (n s) (omega arith), at)

  -- one component more
  pub card_more : (row t : ℕ) (d : A) (count : ℕ) (cells : ℕ → ℕ → Cell A) (r u : ℕ)
      → place_grown F s row (n s + count) (F.mul (weight F s t (n s + count)) d) (card_grown F s row t d count cells) r u ≡ card_grown F s row t d (count + 1) cells r u
  card_more row t d count cells r u =
      by_cases (eqb r row)
      (λ q. elim (cases_eq u (n s + count)) [
        | inl e ↦
            let a : eqb u (n s + count) ≡ true = eq-eqb _ _ e in
            let b : leb (n s) u ≡ true = le-leb _ _ (omega arith) in
            let x : ltb u (n s + count) ≡ false = le-ltb _ _ (omega arith) in
            let y : ltb u (n s + (count + 1)) ≡ true = lt-ltb _ _ (omega arith) in
            rw (q, a, b, x, y) (ap (λ v. grow F s (F.mul (weight F s t v) d) (cells r u)) (sym e))
        | inr ne ↦
            let a : eqb u (n s + count) ≡ false = grind (arith, nat_tests) in
            let same : ltb u (n s + (count + 1)) ≡ ltb u (n s + count) = grind (arith, nat_tests) in
            rw (q, a, same)
      ])
      (λ o. rw o)

  -- a row's symbol and card together
  row_is : (row t : ℕ) (d : A) (cells : ℕ → ℕ → Cell A) (r u : ℕ) → t < n s
      → row_grown F s row t d cells r u ≡ cond (eqb r row && (eqb u t || (leb (n s) u && ltb u (n s + m s)))) (grow F s (F.mul (weight F s t u) d) (cells r u)) (cells r u)
  row_is row t d cells r u h =
      by_cases (eqb r row)
      (λ q. elim (cases_eq u t) [
        | inl e ↦
            let a : eqb u t ≡ true = eq-eqb _ _ e in
            let b : leb (n s) u ≡ false = grind (arith, nat_tests) in
            let w : ltb u (n s) ≡ true = lt-ltb _ _ (omega arith) in
            rw (q, a, b, w, one-mul F d)
        | inr ne ↦
            let a : eqb u t ≡ false = grind (arith, nat_tests) in
            rw (q, a)
      ])
      (λ o. rw o)

  -- all rows that a write touches
  rows_are : (row t : ℕ) (d : A) (count : ℕ) (cells : ℕ → ℕ → Cell A) (r u : ℕ) → row < k s → t < n s
      → rows_grown F s row t d count cells r u
      ≡ cond ((eqb r row || (leb (k s) r && ltb r (k s + count))) && (eqb u t || (leb (n s) u && ltb u (n s + m s)))) (grow F s (F.mul (weight F s t u) (own_change F s row d r)) (cells r u)) (cells r u)
  rows_are row t d zero cells r u l h =
      row_is row t d cells r u h
      ∙ (elim (cases_eq r row) [
        | inl e ↦ let q : eqb r row ≡ true = eq-eqb _ _ e in rw q
        | inr ne ↦
            let q : eqb r row ≡ false = grind (arith, nat_tests) in
            let z : leb (k s) r && ltb r (k s + 0) ≡ false = grind (arith, nat_tests) in
            rw (q, z)
      ])
  rows_are row t d (suc i) cells r u l h =
      row_is (k s + i) t (F.mul (coefficient F i row) d) (rows_grown F s row t d i cells) r u h
      ∙ (elim (cases_eq r (k s + i)) [
        | inl e ↦
            let q : eqb r (k s + i) ≡ true = eq-eqb _ _ e in
            let o : eqb r row ≡ false = grind (arith, nat_tests) in
            let b : leb (k s) r ≡ true = le-leb _ _ (omega arith) in
            let x : ltb r (k s + i) ≡ false = le-ltb _ _ (omega arith) in
            let y : ltb r (k s + suc i) ≡ true = lt-ltb _ _ (omega arith) in
            let at : i ≡ r - k s = omega arith in
            let before : rows_grown F s row t d i cells r u ≡ cells r u = rows_are row t d i cells r u l h ∙ rw (o, b, x) in
            rw (before, q, o, b, y) (ap (λ v. cond (eqb u t || (leb (n s) u && ltb u (n s + m s))) (grow F s (F.mul (weight F s t u) (F.mul (coefficient F v row) d)) (cells r u)) (cells r u)) at)
        | inr ne ↦
            let q : eqb r (k s + i) ≡ false = grind (arith, nat_tests) in
            let same : (leb (k s) r && ltb r (k s + i)) ≡ (leb (k s) r && ltb r (k s + suc i)) = grind (arith, nat_tests) in
            rw q (rows_are row t d i cells r u l h ∙ rw same)
      ])

  pub all_rows : (row t : ℕ) (x : A) (cells : ℕ → ℕ → Cell A) (r u : ℕ) → row < k s → t < n s
      → rows_grown F s row t (F.add x (F.neg (symbol_or F.zer (cells row t)))) (p s) cells r u ≡ written_one F s row t x cells r u
  all_rows row t x cells r u l h = rows_are row t (F.add x (F.neg (symbol_or F.zer (cells row t)))) (p s) cells r u l h

-- one put: a symbol that stands at a place, grown by d
module _ {X A : Type 0} (F : Field A) (s : State A) (meaning : X → A) (held : Contents X) (row t : ℕ) (d : A) where
  grown_there : (c : Cell X) → is_hole c ≡ false → (x : X) → meaning x ≡ F.add (symbol_or F.zer (seen_cell meaning c)) d → symbol (meaning x) ≡ grow F s d (seen_cell meaning c)
  grown_there (symbol y) e x is = ap symbol is
  grown_there hole e x is = let z : ◌≡◌ {A = Bool} true false = e in let q : ◌≡◌ {A = ℕ} 0 1 = cc in absurd (omega arith)

  chosen : (b : Bool) (x : X) (v : Cell X) → seen_cell meaning (cond b (symbol x) v) ≡ cond b (symbol (meaning x)) (seen_cell meaning v)
  chosen true x v = refl
  chosen false x v = refl

  pub put_grown : (x : X) → inside held row t ≡ true → is_hole (held.at row t) ≡ false → meaning x ≡ F.add (element_at F meaning held row t) d
      → (r u : ℕ) → cells_of meaning (after_put held row t x) r u ≡ place_grown F s row t d (cells_of meaning held) r u
  put_grown x here full is r u =
      ap (seen_cell meaning) (put_cell held row t x r u here) ∙ chosen (eqb r row && eqb u t) x (held.at r u)
      ∙ by_cases (eqb r row && eqb u t)
      (λ q.
      let both = and_parts _ _ q in
      let same : held.at r u ≡ held.at row t = ap₂ held.at (eqb-true _ _ both.0) (eqb-true _ _ both.1) in
      rw (q, same) (grown_there (held.at row t) full x is))
      (λ o. rw o)

module _ {X A : Type 0} (F : Field A) (meaning : X → A) (sizes : Sizes) where
  -- a row and a place of a tray that fits are inside the shelf's sizes
  pub inside_fit : (held : Contents X) → fits F (seen meaning sizes held) ≡ true → (row t : ℕ) → row < sizes.data_rows + sizes.parity_rows → t < sizes.block_length + sizes.card_length
      → inside held row t ≡ true
  inside_fit held fit row t h l =
      let f = fitting F (seen meaning sizes held) fit in
      and_both _ _ (lt-ltb row _ (omega (arith, f.rows))) (lt-ltb t _ (omega (arith, f.places)))

  -- a row that was readable still is, after puts that made no hole in it
  pub still_readable : {when : Type 0} {cells : ℕ → ℕ → Cell A} {before after : Contents X} (row : ℕ) → Puts meaning when cells before after → when
      → ((u : ℕ) → is_hole (cells row u) ≡ is_hole (cells_of meaning before row u)) → Readable F meaning sizes before row → Readable F meaning sizes after row
  still_readable {cells = cells} {before = before} {after = after} row puts met same r = record {
    fitting = rw (puts.rows, puts.places) r.fitting;
    inside = r.inside;
    filled = λ u l. sym (same_hole meaning (after.at row u)) ∙ ap is_hole (puts.at met row u) ∙ same u ∙ same_hole meaning (before.at row u) ∙ r.filled u l;
  }

  module _ (before : Contents X) where
    abbrev s : State A
    s = seen meaning sizes before

    -- a card with one component more
    pub card_step : {when : Type 0} (now_held after : Contents X) (row t : ℕ) (d : A) (i u : ℕ) (e : A) → (when → Readable F meaning sizes before row)
        → (when → u ≡ n s + i) → (when → e ≡ F.mul (weight F s t (n s + i)) d) → (when → i < m s)
        → Puts meaning when (card_grown F s row t d i (cells_of meaning before)) before now_held
        → Puts meaning (Readable F meaning sizes now_held row × (u < n s + m s)) (place_grown F s row u e (cells_of meaning now_held)) now_held after
        → Puts meaning when (card_grown F s row t d (i + 1) (cells_of meaning before)) before after
    card_step now_held after row t d i u e readable there own below held put = record {
      rows = put.rows ∙ held.rows;
      places = put.places ∙ held.places;
      at = λ met r v.
          put.at (still_readable row held met (λ w. card_hole F s row t d i (cells_of meaning before) row w) (readable met), let at = there met in let l = below met in omega arith) r v
          ∙ ap₂ (λ (w : ℕ) (x : A). place_grown F s row w x (cells_of meaning now_held) r v) (there met) (own met)
          ∙ ap (λ c. cond (eqb r row && eqb v (n s + i)) (grow F s (F.mul (weight F s t (n s + i)) d) c) c) (held.at met r v)
          ∙ card_more F s row t d i (cells_of meaning before) r v;
    }

    -- a symbol of the block and then the card
    pub row_step : (now_held after : Contents X) (row t : ℕ) (d : A)
        → Puts meaning (Readable F meaning sizes before row × (t < n s + m s)) (place_grown F s row t d (cells_of meaning before)) before now_held
        → Puts meaning (Readable F meaning sizes now_held row) (card_grown F s row t d (m s) (cells_of meaning now_held)) now_held after
        → Puts meaning (Readable F meaning sizes before row × (t < n s)) (row_grown F s row t d (cells_of meaning before)) before after
    row_step now_held after row t d placed carded = record {
      rows = carded.rows ∙ placed.rows;
      places = carded.places ∙ placed.places;
      at = λ met r v.
          let first : Readable F meaning sizes before row × (t < n s + m s) = (met.0, omega (arith, met.1)) in
          carded.at (still_readable row placed first (λ w. place_hole F s row t d (cells_of meaning before) row w) met.0) r v
          ∙ ap (λ c. cond (eqb r row && leb (n s) v && ltb v (n s + m s)) (grow F s (F.mul (weight F s t v) d) c) c) (placed.at first r v);
    }

    -- one parity row more
    pub rows_step : {when : Type 0} (now_held after : Contents X) (row t : ℕ) (d : A) (i r : ℕ) (e : A) → (when → Readable F meaning sizes before (k s + i))
        → (when → t < n s) → (when → r ≡ k s + i) → (when → e ≡ F.mul (coefficient F i row) d)
        → Puts meaning when (rows_grown F s row t d i (cells_of meaning before)) before now_held
        → Puts meaning (Readable F meaning sizes now_held r × (t < n s)) (row_grown F s r t e (cells_of meaning now_held)) now_held after
        → Puts meaning when (rows_grown F s row t d (i + 1) (cells_of meaning before)) before after
    rows_step now_held after row t d i r e readable inside there own held put = record {
      rows = put.rows ∙ held.rows;
      places = put.places ∙ held.places;
      at = λ met q v.
          put.at (subst (Readable F meaning sizes now_held) (sym (there met)) (still_readable (k s + i) held met (λ w. rows_hole F s row t d i (cells_of meaning before) (k s + i) w) (readable met)), inside met) q v
          ∙ ap₂ (λ (w : ℕ) (x : A). row_grown F s w t x (cells_of meaning now_held) q v) (there met) (own met)
          ∙ ap (λ (c : ℕ → ℕ → Cell A). row_grown F s (k s + i) t (F.mul (coefficient F i row) d) c q v) (fun_ext λ a. fun_ext λ b. held.at met a b)
          ∙ (let one : i + 1 ≡ suc i = omega arith in sym (ap (λ (w : ℕ). rows_grown F s row t d w (cells_of meaning before) q v) one));
    }
