-- Cards, put one component after the other.
use Rattle.std.proofs.Common.{◌≡◌, ℕ, ◌+◌, ◌-◌, ◌^◌, ◌<◌, ◌≤◌, Bool, true, false, cond, ◌&&◌, eqb, ltb, leb, ◌≢◌, sym, refl, ap, ◌∙◌, ap₂, arith, ltb-false, ltb-true, le-ltb, lt-ltb, eq-eqb, eqb-true, le-leb}
use borrow.Author.Tests.{lt-leb, both_ways}
use Rattle.algebra.specs.Algebra.{Field}
use Rattle.algebra.proofs.Cases.{by_cases, and_left, and_both}
use Rattle.shelves.specs.Contents.{Contents, Cell, symbol, hole, inside, within, after_put}
use Rattle.shelves.proofs.Contents.{put_cell, same_contents, hole_is}
use Rattle.rules.specs.Codes.{component}
use Rattle.rules.specs.States.{State, k, p, n, m, cell, fits, with_cells, symbol_at, symbol_or}
use Rattle.rules.specs.Updates.{carded}
use Rattle.rules.specs.Views.{seen_cell, seen_contents, seen, same_hole, element_at}
use Rattle.rules.specs.declared.Sizes.{Sizes}
use Rattle.rules.proofs.Rows.{Fitting, fitting}
use Rattle.rules.proofs.Tables.{component_same}
use Rattle.rows.specs.Cards.{Holds, partly, below, CardPut, CardsPut}

pub seen_put : {X A : Type 0} (meaning : X → A) (b : Bool) (x : X) (v : Cell X) → seen_cell meaning (cond b (symbol x) v) ≡ cond b (symbol (meaning x)) (seen_cell meaning v)
seen_put meaning true x v = refl
seen_put meaning false x v = refl

module _ {X A : Type 0} (F : Field A) (meaning : X → A) (sizes : Sizes) (before : Contents X) where
  abbrev s : State A
  s = seen meaning sizes before

  -- what a card puts stands in card places alone
  carded_block : (r t : ℕ) → t < n s → carded F s r t ≡ cell s r t
  carded_block r t h = let e = lt-leb (n s) t h in by_cases (ltb r (k s + p s)) (λ i. rw (i, e)) (λ o. rw o)

  carded_beyond : (r t : ℕ) → n s + m s ≤ t → carded F s r t ≡ cell s r t
  carded_beyond r t h =
      let e = le-ltb t (n s + m s) h in
      by_cases (ltb r (k s + p s)) (λ i. by_cases (leb (n s) t) (λ j. rw (i, j, e)) (λ o. rw (i, o))) (λ o. rw o)

  carded_card : (r c : ℕ) → r < k s + p s → c < m s → carded F s r (n s + c) ≡ symbol (component F (n s) (symbol_at F s r) c)
  carded_card r c h l =
      let e : n s + c - n s ≡ c = omega arith in
      rw (lt-ltb r (k s + p s) h, le-leb (n s) (n s + c) (omega arith), lt-ltb (n s + c) (n s + m s) (omega arith), e)

  -- one component more
  module _ (row count place : ℕ) (now_held : Contents X) (x : X) (h : row < k s + p s) (l : count < m s) (spot : fits F s ≡ true → place ≡ n s + count)
      (held : Holds F meaning sizes before (partly F meaning sizes before row count) now_held)
      (fresh : meaning x ≡ component F (n s) (element_at F meaning now_held row) count) (fit : fits F s ≡ true) where
    is : place ≡ n s + count
    is = spot fit

    here : inside now_held row place ≡ true
    here =
        let f = fitting F s fit in
        let a : row < now_held.rows = omega (arith, held.rows, f.rows) in
        let b : place < now_held.places = omega (arith, is, held.places, f.places) in
        and_both _ _ (lt-ltb _ _ a) (lt-ltb _ _ b)

    block_same : (i : ℕ) → i < n s → element_at F meaning now_held row i ≡ symbol_at F s row i
    block_same i b =
        let q = eq-eqb row row refl in
        let w = lt-ltb i (n s + count) (omega arith) in
        let c : seen_cell meaning (now_held.at row i) ≡ carded F s row i = rw (q, w) at (held.at fit row i) in
        ap (symbol_or F.zer) (c ∙ carded_block row i b)

    put_is : symbol (meaning x) ≡ carded F s row (n s + count)
    put_is = ap symbol (fresh ∙ component_same F (n s) _ _ count block_same) ∙ sym (carded_card row count h l)

    at_more : (r t : ℕ) → cond (eqb r row && eqb t place) (symbol (meaning x)) (partly F meaning sizes before row count r t) ≡ partly F meaning sizes before row (count + 1) r t
    at_more r t =
        by_cases (eqb r row)
        (λ q. by_cases (eqb t place)
        (λ u.
        let tt≡ : t ≡ n s + count = eqb-true t place u ∙ is in
        let w : ltb t (n s + (count + 1)) ≡ true = lt-ltb _ _ (omega arith) in
        rw (q, u, w) (put_is ∙ ap₂ (λ a b. carded F s a b) (sym (eqb-true r row q)) (sym tt≡)))
        (λ u.
        let ne : t ≢ n s + count = λ e. both_ways _ u (eq-eqb t place (e ∙ sym is)) in
        by_cases (ltb t (n s + count))
        (λ w. let v : ltb t (n s + (count + 1)) ≡ true = lt-ltb _ _ (omega (arith, ltb-true t (n s + count) w)) in rw (q, u, w, v))
        (λ w. let v : ltb t (n s + (count + 1)) ≡ false = le-ltb _ _ (omega (arith, ltb-false t (n s + count) w)) in rw (q, u, w, v))))
        (λ o. rw o)

    cell_more : (r t : ℕ) → seen_cell meaning ((after_put now_held row place x).at r t) ≡ partly F meaning sizes before row (count + 1) r t
    cell_more r t =
        ap (seen_cell meaning) (put_cell now_held row place x r t here)
        ∙ seen_put meaning (eqb r row && eqb t place) x (now_held.at r t)
        ∙ ap (cond (eqb r row && eqb t place) (symbol (meaning x))) (held.at fit r t)
        ∙ at_more r t

  pub more : (row count place : ℕ) (now_held : Contents X) (x : X) → row < k s + p s → count < m s → (fits F s ≡ true → place ≡ n s + count)
      → Holds F meaning sizes before (partly F meaning sizes before row count) now_held
      → meaning x ≡ component F (n s) (element_at F meaning now_held row) count
      → Holds F meaning sizes before (partly F meaning sizes before row (count + 1)) (after_put now_held row place x)
  more row count place now_held x h l is held fresh = record {
    rows = held.rows;
    places = held.places;
    at = λ fit. cell_more row count place now_held x h l is held fresh fit;
  }

  -- where the tray fits, no sum of its sizes overflows
  pub no_overflow : fits F s ≡ true → (n s + m s < 2 ^ 64) × (k s + p s < 2 ^ 63)
  no_overflow fit = let f = fitting F s fit in (omega arith, omega arith)

  -- one row more
  module _ (row : ℕ) (now_held after : Contents X) (h : row < k s + p s) (held : Holds F meaning sizes before (below F meaning sizes before row) now_held)
      (put : Holds F meaning sizes now_held (partly F meaning sizes now_held row (m s)) after) (fit : fits F s ≡ true) where
    fit_now : fits F (seen meaning sizes now_held) ≡ true
    fit_now = rw (held.rows, held.places) fit

    same_row : (t : ℕ) → seen_cell meaning (now_held.at row t) ≡ cell s row t
    same_row t = let o = le-ltb row row (omega arith) in rw o at (held.at fit row t)

    carded_same : (t : ℕ) → carded F (seen meaning sizes now_held) row t ≡ carded F s row t
    carded_same t =
        ap₂ (λ (a b : Cell A). cond (ltb row (k s + p s) && leb (n s) t && ltb t (n s + m s)) a b)
        (ap symbol (component_same F (n s) _ _ (t - n s) (λ i b. ap (symbol_or F.zer) (same_row i))))
        (same_row t)

    row_cell : (r t : ℕ) → partly F meaning sizes now_held row (m s) r t ≡ below F meaning sizes before (row + 1) r t
    row_cell r t =
        by_cases (eqb r row)
        (λ q.
        let e : r ≡ row = eqb-true r row q in
        let w : ltb r (row + 1) ≡ true = lt-ltb _ _ (omega arith) in
        by_cases (ltb t (n s + m s))
        (λ u.
        ap (λ b. cond b (carded F (seen meaning sizes now_held) r t) (seen_cell meaning (now_held.at r t))) (and_both _ _ q u)
        ∙ ap (λ v. carded F (seen meaning sizes now_held) v t) e
        ∙ carded_same t
        ∙ ap (λ v. carded F s v t) (sym e)
        ∙ sym (ap (λ b. cond b (carded F s r t) (cell s r t)) w))
        (λ u.
        ap₂ (λ a b. cond (a && b) (carded F (seen meaning sizes now_held) r t) (seen_cell meaning (now_held.at r t))) q u
        ∙ ap (λ v. seen_cell meaning (now_held.at v t)) e
        ∙ same_row t
        ∙ ap (λ v. cell s v t) (sym e)
        ∙ sym (carded_beyond r t (ltb-false t (n s + m s) u))
        ∙ sym (ap (λ b. cond b (carded F s r t) (cell s r t)) w)))
        (λ q.
        let ne : r ≢ row = λ e. both_ways _ q (eq-eqb r row e) in
        by_cases (ltb r row)
        (λ w.
        let v : ltb r (row + 1) ≡ true = lt-ltb _ _ (omega (arith, ltb-true r row w)) in
        rw (q, v) (rw w at (held.at fit r t)))
        (λ w.
        let v : ltb r (row + 1) ≡ false = le-ltb _ _ (omega (arith, ltb-false r row w)) in
        rw (q, v) (rw w at (held.at fit r t))))

  pub row_more : (row : ℕ) (now_held after : Contents X) → row < k s + p s → Holds F meaning sizes before (below F meaning sizes before row) now_held
      → CardPut F meaning sizes row now_held after → Holds F meaning sizes before (below F meaning sizes before (row + 1)) after
  row_more row now_held after h held put = record {
    rows = (put h).rows ∙ held.rows;
    places = (put h).places ∙ held.places;
    at = λ fit r t. (put h).at (fit_now row now_held after h held (put h) fit) r t ∙ row_cell row now_held after h held (put h) fit r t;
  }

  all_cards : (after : Contents X) (row : ℕ) → (fits F s ≡ true → row ≡ k s + p s) → Holds F meaning sizes before (below F meaning sizes before row) after
      → fits F s ≡ true → seen_contents meaning after ≡ (with_cells s (carded F s)).contents
  all_cards after row last held fit =
      same_contents (seen_contents meaning after) (with_cells s (carded F s)).contents held.rows held.places (λ r t. held.at fit r t ∙ filled_cell r t)
    where
      f : Fitting F s
      f = fitting F s fit

      e : row ≡ k s + p s
      e = last fit

      outside : (r t : ℕ) → within before.rows before.places r t ≡ false → cell s r t ≡ hole
      outside r t o = hole_is _ (same_hole meaning (before.at r t) ∙ before.beyond r t o)

      filled_cell : (r t : ℕ) → below F meaning sizes before row r t ≡ cond (within before.rows before.places r t) (carded F s r t) hole
      filled_cell r t =
          by_cases (within before.rows before.places r t)
          (λ i.
          let w : ltb r row ≡ true = lt-ltb _ _ (omega (arith, e, ltb-true r before.rows (and_left _ _ i), f.rows)) in
          rw (i, w))
          (λ o. by_cases (ltb r row)
          (λ w.
          let u : n s + m s ≤ t = beyond_place r t o (ltb-true r row w) in
          rw (o, w) (carded_beyond r t u ∙ outside r t o))
          (λ w. rw (o, w) (outside r t o)))
        where
          beyond_place : (r t : ℕ) → within before.rows before.places r t ≡ false → r < row → n s + m s ≤ t
          beyond_place r t o h =
              let w : ltb r before.rows ≡ true = lt-ltb _ _ (omega (arith, e, f.rows)) in
              let u : ltb t before.places ≡ false = rw w at o in
              omega (arith, ltb-false t before.places u, f.places)

  pub all_rows : (after : Contents X) (row : ℕ) → (fits F s ≡ true → row ≡ k s + p s) → Holds F meaning sizes before (below F meaning sizes before row) after → CardsPut F meaning sizes before after
  all_rows after row last held = record { rows = held.rows; places = held.places; cards = all_cards after row last held }
