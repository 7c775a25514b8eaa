-- Rows put whole, place after place and row after row.
use Rattle.std.proofs.Common.{◌≡◌, ℕ, ◌+◌, ◌-◌, ◌<◌, ◌≤◌, Bool, true, false, cond, not, ◌&&◌, eqb, ltb, ◌≢◌, sym, refl, ap, ◌∙◌, ap₂, inl, arith, ltb-false, ltb-true, le-ltb, lt-ltb, eq-eqb, eqb-true, le-leb}
use borrow.Author.Tests.{lt-leb, both_ways}
use Rattle.algebra.specs.Algebra.{Field}
use Rattle.algebra.proofs.Cases.{by_cases, and_left, and_both}
use Rattle.algebra.proofs.Ring.{zero-mul}
use Rattle.algebra.proofs.Sums.{sum_below}
use Rattle.shelves.specs.Contents.{Contents, Cell, symbol, hole, inside, within, after_put}
use Rattle.shelves.proofs.Contents.{put_cell, same_contents, hole_is}
use Rattle.rules.specs.Codes.{component, table, table_block}
use Rattle.rules.specs.States.{State, k, p, n, m, cell, fits, sound, with_cells, symbol_at, symbol_or}
use Rattle.rules.specs.Updates.{carded, Worked, mended_cells}
use Rattle.rules.specs.Views.{seen_cell, seen_contents, seen, same_hole, element_at}
use Rattle.rules.specs.declared.Sizes.{Sizes}
use Rattle.rules.proofs.Rows.{Fitting, fitting}
use Rattle.rules.proofs.Tables.{component_same, table_place}
use Rattle.rows.specs.Cards.{Holds, partly}
use Rattle.rows.proofs.Carding.{seen_put}
use Rattle.mending.specs.declared.Damage.{Damage}
use Rattle.mending.specs.declared.plans.Plan.{Plan}
use Rattle.mending.specs.Plans.{flag, weight_of, ReadyFor}
use Rattle.mending.specs.Puts.{weighted_sum, worked, block_cells, row_cells, mended_below}
use Rattle.mending.proofs.Stating.{made, no_weight_here}

never : (b : Bool) → (b && false) ≡ false
never true = refl
never false = refl

-- one place more of a row
place_more : {A : Type 0} (row place r t : ℕ) (v : ℕ → Cell A) (old : Cell A)
    → cond (eqb r row && eqb t place) (v place) (cond (eqb r row && ltb t place) (v t) old) ≡ cond (eqb r row && ltb t (place + 1)) (v t) old
place_more row place r t v old =
    by_cases (eqb r row)
    (λ q. by_cases (eqb t place)
    (λ u.
    let e : t ≡ place = eqb-true t place u in
    let w : ltb t (place + 1) ≡ true = lt-ltb _ _ (omega arith) in
    rw (q, u, w) (ap v (sym e)))
    (λ u.
    let ne : t ≢ place = λ e. both_ways _ u (eq-eqb t place e) in
    by_cases (ltb t place)
    (λ w. let z : ltb t (place + 1) ≡ true = lt-ltb _ _ (omega (arith, ltb-true t place w)) in rw (q, u, w, z))
    (λ w. let z : ltb t (place + 1) ≡ false = le-ltb _ _ (omega (arith, ltb-false t place w)) in rw (q, u, w, z))))
    (λ o. rw o)

module _ {X A : Type 0} (F : Field A) (meaning : X → A) (sizes : Sizes) where
  -- contents of the same sizes fit as well
  fits_too : (before held : Contents X) → held.rows ≡ before.rows → held.places ≡ before.places → fits F (seen meaning sizes before) ≡ true → fits F (seen meaning sizes held) ≡ true
  fits_too before held rows places fit = rw (rows, places) fit

  module _ (before : Contents X) where
    abbrev s : State A
    s = seen meaning sizes before

    -- one place more of a block
    module _ (weights : ℕ → A) (row place : ℕ) (now : Contents X) (x : X) (h : row < k s + p s) (l : place < n s)
        (held : Holds F meaning sizes before (block_cells F meaning sizes weights row before place) now)
        (is : meaning x ≡ weighted_sum F meaning now weights (k s + p s) place) where
      worked_here : fits F s ≡ true → meaning x ≡ worked F meaning sizes weights row before place
      worked_here fit =
          is
          ∙ sum_below F (k s + p s) _ _ (λ r o. ap (λ c. F.mul (weights r) (symbol_or F.zer c)) (held.at fit r place ∙ untouched r))
        where
          untouched : (r : ℕ) → block_cells F meaning sizes weights row before place r place ≡ seen_cell meaning (before.at r place)
          untouched r = let e = le-ltb place place (omega arith) in rw (e, never (eqb r row))

      here : fits F s ≡ true → inside now row place ≡ true
      here fit =
          let f = fitting F s fit in
          let a : row < now.rows = omega (arith, held.rows, f.rows) in
          let b : place < now.places = omega (arith, held.places, f.places) in
          and_both _ _ (lt-ltb _ _ a) (lt-ltb _ _ b)

      pub block_more : Holds F meaning sizes before (block_cells F meaning sizes weights row before (place + 1)) (after_put now row place x)
      block_more = record {
        rows = held.rows;
        places = held.places;
        at = λ fit r t.
            ap (seen_cell meaning) (put_cell now row place x r t (here fit))
            ∙ seen_put meaning (eqb r row && eqb t place) x (now.at r t)
            ∙ ap₂ (λ (v w : Cell A). cond (eqb r row && eqb t place) v w) (ap symbol (worked_here fit)) (held.at fit r t)
            ∙ place_more row place r t (λ u. symbol (worked F meaning sizes weights row before u)) (seen_cell meaning (before.at r t));
      }

    -- a block and then its card
    module _ (weights : ℕ → A) (row : ℕ) (mid after : Contents X) (h : row < k s + p s)
        (held : Holds F meaning sizes before (block_cells F meaning sizes weights row before (n s)) mid) (put : Holds F meaning sizes mid (partly F meaning sizes mid row (m s)) after) where
      block_is : fits F s ≡ true → (t : ℕ) → t < n s → seen_cell meaning (mid.at row t) ≡ symbol (worked F meaning sizes weights row before t)
      block_is fit t l = let q = eq-eqb row row refl in let u = lt-ltb t (n s) l in held.at fit row t ∙ rw (q, u)

      carded_is : fits F s ≡ true → (t : ℕ) → t < n s + m s → carded F (seen meaning sizes mid) row t
          ≡ cond (ltb t (n s)) (symbol (worked F meaning sizes weights row before t)) (symbol (component F (n s) (worked F meaning sizes weights row before) (t - n s)))
      carded_is fit t l =
          let a = lt-ltb row (k s + p s) h in
          by_cases (ltb t (n s))
          (λ u. let b = lt-leb (n s) t (ltb-true t (n s) u) in rw (a, b, u) (block_is fit t (ltb-true t (n s) u)))
          (λ u.
          let b = le-leb (n s) t (ltb-false t (n s) u) in
          let c = lt-ltb t (n s + m s) l in
          rw (a, b, c, u)
          (ap symbol (component_same F (n s) _ _ (t - n s) (λ i o. ap (symbol_or F.zer) (block_is fit i o)))))

      pub row_put : Holds F meaning sizes before (row_cells F meaning sizes weights row before) after
      row_put = record {
        rows = put.rows ∙ held.rows;
        places = put.places ∙ held.places;
        at = λ fit r t. put.at (fits_too before mid held.rows held.places fit) r t ∙ cells fit r t;
      }
        where
          cells : fits F s ≡ true → (r t : ℕ) → partly F meaning sizes mid row (m s) r t ≡ row_cells F meaning sizes weights row before r t
          cells fit r t =
              by_cases (eqb r row)
              (λ q.
              let e : r ≡ row = eqb-true r row q in
              by_cases (ltb t (n s + m s))
              (λ u.
              ap (λ b. cond b (carded F (seen meaning sizes mid) r t) (seen_cell meaning (mid.at r t))) (and_both _ _ q u)
              ∙ ap (λ v. carded F (seen meaning sizes mid) v t) e ∙ carded_is fit t (ltb-true t (n s + m s) u)
              ∙ sym (ap (λ b. cond b
              (cond (ltb t (n s)) (symbol (worked F meaning sizes weights row before t)) (symbol (component F (n s) (worked F meaning sizes weights row before) (t - n s))))
              (seen_cell meaning (before.at r t))) (and_both _ _ q u)))
              (λ u.
              let b = le-ltb t (n s) (omega (arith, ltb-false t (n s + m s) u)) in
              rw (q, u) (held.at fit r t ∙ rw (q, b))))
              (λ o. rw o (held.at fit r t ∙ rw o))

    -- rows mended one after the other
    module _ (damage : Damage) (plan : Plan) (ready : ReadyFor F s damage plan) (blocks : ℕ → ℕ → A) (w : Worked F s blocks) (row : ℕ) (h : row < k s + p s) (now : Contents X)
        (held : Holds F meaning sizes before (mended_below F meaning sizes blocks before row) now) where
      fit : fits F s ≡ true
      fit = ready.fit

      -- a sound row stays as it is
      mended_sound : (r t : ℕ) → sound F s r ≡ true → mended_cells F s blocks r t ≡ cell s r t
      mended_sound r t e =
          ap (λ b. cond (ltb r (k s + p s) && ltb t (n s + m s) && not b) (symbol (table F (k s) (n s) blocks r t)) (cell s r t)) e
          ∙ ap (λ b. cond b (symbol (table F (k s) (n s) blocks r t)) (cell s r t)) (and_never (ltb r (k s + p s)) (ltb t (n s + m s)))
        where
          and_never : (a b : Bool) → (a && b && false) ≡ false
          and_never true b = never b
          and_never false b = refl

      mended_bad : (t : ℕ) → sound F s row ≡ false → t < n s + m s → mended_cells F s blocks row t ≡ symbol (table F (k s) (n s) blocks row t)
      mended_bad t e l = let a = lt-ltb row (k s + p s) h in let b = lt-ltb t (n s + m s) l in rw (a, b, e)

      mended_past : (r t : ℕ) → n s + m s ≤ t → mended_cells F s blocks r t ≡ cell s r t
      mended_past r t l = let b = le-ltb t (n s + m s) l in by_cases (ltb r (k s + p s)) (λ a. rw (a, b)) (λ a. rw a)

      -- a sound row's symbols are still those at the start
      still : (r t : ℕ) → sound F s r ≡ true → seen_cell meaning (now.at r t) ≡ cell s r t
      still r t e =
          held.at fit r t
          ∙ by_cases (ltb r row) (λ u. ap (λ b. cond b (mended_cells F s blocks r t) (cell s r t)) u ∙ mended_sound r t e) (λ u. ap (λ b. cond b (mended_cells F s blocks r t) (cell s r t)) u)

      beside : (after_row : ℕ) (r t : ℕ) → after_row ≡ row + 1 → r ≢ row → mended_below F meaning sizes blocks before row r t ≡ mended_below F meaning sizes blocks before after_row r t
      beside after_row r t e ne =
          by_cases (ltb r row)
          (λ u. let z : ltb r after_row ≡ true = lt-ltb _ _ (omega (arith, ltb-true r row u)) in rw (u, z))
          (λ u. let z : ltb r after_row ≡ false = le-ltb _ _ (omega (arith, ltb-false r row u)) in rw (u, z))

      row_next : (r t : ℕ) → r ≡ row → mended_below F meaning sizes blocks before (row + 1) r t ≡ mended_cells F s blocks r t
      row_next r t e = let z : ltb r (row + 1) ≡ true = lt-ltb _ _ (omega arith) in rw z

      row_before : (r t : ℕ) → r ≡ row → mended_below F meaning sizes blocks before row r t ≡ cell s r t
      row_before r t e = let z : ltb r row ≡ false = le-ltb _ _ (omega arith) in rw z

      pub sound_next : sound F s row ≡ true → Holds F meaning sizes before (mended_below F meaning sizes blocks before (row + 1)) now
      sound_next e = record {
        rows = held.rows;
        places = held.places;
        at = λ fit r t. held.at fit r t ∙ by_cases (eqb r row)
            (λ q. let i = eqb-true r row q in row_before r t i ∙ sym (mended_sound r t (ap (sound F s) i ∙ e)) ∙ sym (row_next r t i))
            (λ q. beside (row + 1) r t refl (λ i. both_ways _ q (eq-eqb r row i)));
      }

      module _ (weights : ℕ → A) (are : (source : ℕ) → source < k s + p s → weights source ≡ weight_of F (k s) (flag damage) plan row source) (off : sound F s row ≡ false)
          (after : Contents X) (put : Holds F meaning sizes now (row_cells F meaning sizes weights row now) after) where
        term_is : (source t : ℕ) → source < k s + p s → F.mul (weights source) (element_at F meaning now source t) ≡ F.mul (weight_of F (k s) (flag damage) plan row source) (symbol_at F s source t)
        term_is source t l =
            ap (λ x. F.mul x (element_at F meaning now source t)) (are source l)
            ∙ by_cases (sound F s source)
            (λ e. ap (λ c. F.mul (weight_of F (k s) (flag damage) plan row source) (symbol_or F.zer c)) (still source t e))
            (λ e.
            let z = no_weight_here F s damage plan ready row source h (inl off) l e in
            ap (λ x. F.mul x (element_at F meaning now source t)) z ∙ zero-mul F _ ∙ sym (ap (λ x. F.mul x (symbol_at F s source t)) z ∙ zero-mul F _))

        block_made : (t : ℕ) → t < n s → worked F meaning sizes weights row now t ≡ table_block F (k s) blocks row t
        block_made t l = sum_below F (k s + p s) _ _ (λ source o. term_is source t o) ∙ made F s damage plan ready blocks w row t h (inl off) l

        made_cell : (t : ℕ) → t < n s + m s
            → cond (ltb t (n s)) (symbol (worked F meaning sizes weights row now t)) (symbol (component F (n s) (worked F meaning sizes weights row now) (t - n s))) ≡ mended_cells F s blocks row t
        made_cell t l =
            by_cases (ltb t (n s))
            (λ u. ap (λ b. cond b (symbol (worked F meaning sizes weights row now t)) (symbol (component F (n s) (worked F meaning sizes weights row now) (t - n s)))) u
            ∙ ap symbol (block_made t (ltb-true t (n s) u) ∙ sym (table_place F (k s) blocks (n s) row t (ltb-true t (n s) u))))
            (λ u. ap (λ b. cond b (symbol (worked F meaning sizes weights row now t)) (symbol (component F (n s) (worked F meaning sizes weights row now) (t - n s)))) u
            ∙ ap symbol (component_same F (n s) _ _ (t - n s) block_made
            ∙ ap (λ b. cond b (table_block F (k s) blocks row t) (component F (n s) (table_block F (k s) blocks row) (t - n s))) (sym u)))
            ∙ sym (mended_bad t off l)

        pub put_next : Holds F meaning sizes before (mended_below F meaning sizes blocks before (row + 1)) after
        put_next = record {
          rows = put.rows ∙ held.rows;
          places = put.places ∙ held.places;
          at = λ fit r t. put.at (fits_too before now held.rows held.places fit) r t ∙ cells fit r t;
        }
          where
            cells : fits F s ≡ true → (r t : ℕ) → row_cells F meaning sizes weights row now r t ≡ mended_below F meaning sizes blocks before (row + 1) r t
            cells fit r t =
                by_cases (eqb r row)
                (λ q.
                let i : r ≡ row = eqb-true r row q in
                by_cases (ltb t (n s + m s))
                (λ u.
                ap (λ b. cond b
                (cond (ltb t (n s)) (symbol (worked F meaning sizes weights row now t)) (symbol (component F (n s) (worked F meaning sizes weights row now) (t - n s))))
                (seen_cell meaning (now.at r t))) (and_both _ _ q u)
                ∙ made_cell t (ltb-true t (n s + m s) u) ∙ ap (λ v. mended_cells F s blocks v t) (sym i) ∙ sym (row_next r t i))
                (λ u.
                ap₂ (λ a b. cond (a && b)
                (cond (ltb t (n s)) (symbol (worked F meaning sizes weights row now t)) (symbol (component F (n s) (worked F meaning sizes weights row now) (t - n s))))
                (seen_cell meaning (now.at r t))) q u
                ∙ (held.at fit r t ∙ row_before r t i ∙ sym (mended_past r t (ltb-false t (n s + m s) u)) ∙ sym (row_next r t i))))
                (λ o. rw o (held.at fit r t ∙ beside (row + 1) r t refl (λ i. both_ways _ o (eq-eqb r row i))))

    -- all rows
    pub all_mended : (fit : fits F s ≡ true) (blocks : ℕ → ℕ → A) (after : Contents X) → Holds F meaning sizes before (mended_below F meaning sizes blocks before (k s + p s)) after
        → seen_contents meaning after ≡ (with_cells s (mended_cells F s blocks)).contents
    all_mended fit blocks after held =
        same_contents (seen_contents meaning after) (with_cells s (mended_cells F s blocks)).contents held.rows held.places (λ r t. held.at fit r t ∙ filled_cell r t)
      where
        f : Fitting F s
        f = fitting F s fit

        outside : (r t : ℕ) → within before.rows before.places r t ≡ false → cell s r t ≡ hole
        outside r t o = hole_is _ (same_hole meaning (before.at r t) ∙ before.beyond r t o)

        filled_cell : (r t : ℕ) → mended_below F meaning sizes blocks before (k s + p s) r t ≡ cond (within before.rows before.places r t) (mended_cells F s blocks r t) hole
        filled_cell r t =
            by_cases (within before.rows before.places r t)
            (λ i.
            let z : ltb r (k s + p s) ≡ true = lt-ltb _ _ (omega (arith, ltb-true r before.rows (and_left _ _ i), f.rows)) in
            ap (λ b. cond b (mended_cells F s blocks r t) (cell s r t)) z ∙ sym (ap (λ b. cond b (mended_cells F s blocks r t) hole) i))
            (λ o. by_cases (ltb r (k s + p s))
            (λ z.
            let u : ltb t (n s + m s) ≡ false = le-ltb _ _ (past r t o (ltb-true r (k s + p s) z)) in
            rw (o, z, u) (outside r t o))
            (λ z. rw (o, z) (outside r t o)))
          where
            past : (r t : ℕ) → within before.rows before.places r t ≡ false → r < k s + p s → n s + m s ≤ t
            past r t o h =
                let a : ltb r before.rows ≡ true = lt-ltb _ _ (omega (arith, f.rows)) in
                let u : ltb t before.places ≡ false = rw a at o in
                omega (arith, ltb-false t before.places u, f.places)
