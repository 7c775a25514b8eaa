-- Contents copied place after place.
use Rattle.std.proofs.Common.{◌≡◌, ℕ, ◌+◌, ◌<◌, ◌≤◌, min, Bool, true, false, cond, ◌&&◌, eqb, Some, None, ◌⊎◌, inl, inr, refl, sym, ap, ap₂, ◌∙◌, arith, eqb-true}
use Rattle.std.proofs.lemmas.Bool.Decides.{nat_tests}
use Rattle.std.proofs.lemmas.Bool.{and_parts, cases_lt}
use Rattle.algebra.proofs.Cases.{by_cases}
use Rattle.shelves.specs.Contents.{Contents, Cell, symbol, hole, within, inside, got, symbol_of, get_answer, after_put}
use Rattle.shelves.proofs.Contents.{same_contents, filled_same, hole_is, put_filled}
use Rattle.ffi.specs.Copies.{overlaid, copied_where, copied, before}

got_symbol : {X : Type 0} (c : Cell X) (x : X) → symbol_of (got c) ≡ Some x → c ≡ symbol x
got_symbol (symbol y) x e = cc
got_symbol hole x e = cc

got_hole : {X : Type 0} (c : Cell X) → symbol_of (got c) ≡ None → c ≡ hole
got_hole (symbol y) e = cc
got_hole hole e = refl

-- what a get says of the cell
pub cell_symbol : {X : Type 0} (c : Contents X) (row place : ℕ) (x : X) → symbol_of (get_answer c row place) ≡ Some x → c.at row place ≡ symbol x
cell_symbol c row place x e =
    by_cases (inside c row place) (λ t. got_symbol (c.at row place) x (rw t at e)) (λ f. let h = rw f at e in cc)

pub cell_hole : {X : Type 0} (c : Contents X) (row place : ℕ) → symbol_of (get_answer c row place) ≡ None → c.at row place ≡ hole
cell_hole c row place e =
    by_cases (inside c row place) (λ t. got_hole (c.at row place) (rw t at e)) (λ f. hole_is (c.at row place) (c.beyond row place f))

same_place : (r c row place : ℕ) → (eqb r row && eqb c place) ≡ true → (r ≡ row) × (c ≡ place)
same_place r c row place t = let q = and_parts _ _ t in (eqb-true r row q.0, eqb-true c place q.1)

both_same : {X : Type 0} (a b : Bool) (c d : Cell X) → c ≡ d → cond a c d ≡ cond b c d
both_same true true c d h = refl
both_same true false c d h = h
both_same false true c d h = sym h
both_same false false c d h = refl

pub before_start : (r c : ℕ) → before 0 0 r c ≡ false
before_start r c = grind (arith, nat_tests)

pub before_here : (row place : ℕ) → before row (place + 1) row place ≡ true
before_here row place = grind (arith, nat_tests)

pub before_next : (row place r c : ℕ) → (eqb r row && eqb c place) ≡ false → before row (place + 1) r c ≡ before row place r c
before_next row place r c h = grind (arith, nat_tests)

before_row : (row places r c : ℕ) → c < places → before row places r c ≡ before (row + 1) 0 r c
before_row row places r c h = grind (arith, nat_tests)

before_end : (rows r c : ℕ) → r < rows → before rows 0 r c ≡ true
before_end rows r c h = grind (arith, nat_tests)

not_within_place : (rows places r c : ℕ) → places ≤ c → within rows places r c ≡ false
not_within_place rows places r c h = grind (arith, nat_tests)

not_within_row : (rows places r c : ℕ) → rows ≤ r → within rows places r c ≡ false
not_within_row rows places r c h = grind (arith, nat_tests)

module _ {X : Type 0} (from to : Contents X) where
  -- nothing copied yet
  pub none_copied : to ≡ copied_where from to (before 0 0)
  none_copied =
      sym (same_contents (copied_where from to (before 0 0)) to refl refl (λ r c. filled_same to (λ r c. cond (before 0 0 r c) (overlaid (from.at r c) (to.at r c)) (to.at r c)) r c (ap (λ b. cond b (overlaid (from.at r c) (to.at r c)) (to.at r c)) (before_start r c))))

  same_cell : (p q : ℕ → ℕ → Bool) (r c : ℕ) → (p r c ≡ q r c) ⊎ (from.at r c ≡ hole) → cond (p r c) (overlaid (from.at r c) (to.at r c)) (to.at r c) ≡ cond (q r c) (overlaid (from.at r c) (to.at r c)) (to.at r c)
  same_cell p q r c (inl e) = ap (λ b. cond b (overlaid (from.at r c) (to.at r c)) (to.at r c)) e
  same_cell p q r c (inr e) = both_same (p r c) (q r c) (overlaid (from.at r c) (to.at r c)) (to.at r c) (ap (λ v. overlaid v (to.at r c)) e)

  -- places that are copied, or that hold nothing to copy
  same_copied : (p q : ℕ → ℕ → Bool) → ((r c : ℕ) → (p r c ≡ q r c) ⊎ (from.at r c ≡ hole)) → copied_where from to p ≡ copied_where from to q
  same_copied p q same =
      same_contents (copied_where from to p) (copied_where from to q) refl refl (λ r c. ap (λ v. cond (within to.rows to.places r c) v hole) (same_cell p q r c (same r c)))

  -- one place more, with a symbol and without
  pub put_copied : (row place : ℕ) (x : X) → from.at row place ≡ symbol x → after_put (copied_where from to (before row place)) row place x ≡ copied_where from to (before row (place + 1))
  put_copied row place x is =
      sym (put_filled to.rows to.places
      (λ r c. cond (before row place r c) (overlaid (from.at r c) (to.at r c)) (to.at r c))
      (λ r c. cond (before row (place + 1) r c) (overlaid (from.at r c) (to.at r c)) (to.at r c))
      row place x
      (ap (λ b. cond b (overlaid (from.at row place) (to.at row place)) (to.at row place)) (before_here row place) ∙ ap (λ v. overlaid v (to.at row place)) is)
      (λ r c w f. ap (λ b. cond b (overlaid (from.at r c) (to.at r c)) (to.at r c)) (before_next row place r c f)))

  pub skip_copied : (row place : ℕ) → from.at row place ≡ hole → copied_where from to (before row place) ≡ copied_where from to (before row (place + 1))
  skip_copied row place is =
      same_copied (before row place) (before row (place + 1)) (λ r c.
      by_cases (eqb r row && eqb c place)
      (λ t. let q = same_place r c row place t in inr (ap₂ from.at q.0 q.1 ∙ is))
      (λ f. inl (sym (before_next row place r c f))))

  -- one row more, and all
  pub row_copied : (row : ℕ) → copied_where from to (before row from.places) ≡ copied_where from to (before (row + 1) 0)
  row_copied row =
      same_copied (before row from.places) (before (row + 1) 0) (λ r c.
      elim (cases_lt c from.places) [
        | inl h ↦ inl (before_row row from.places r c h)
        | inr h ↦ inr (hole_is (from.at r c) (from.beyond r c (not_within_place from.rows from.places r c h)))
      ])

  pub all_copied : copied_where from to (before from.rows 0) ≡ copied from to
  all_copied =
      same_copied (before from.rows 0) (λ r c. true) (λ r c.
      elim (cases_lt r from.rows) [
        | inl h ↦ inl (before_end from.rows r c h)
        | inr h ↦ inr (hole_is (from.at r c) (from.beyond r c (not_within_row from.rows from.places r c h)))
      ])

  -- a row that only one of the two has holds nothing to copy, or has no room for it
  pub enough_copied : (rows : ℕ) → rows ≡ min from.rows to.rows → copied_where from to (before rows 0) ≡ copied from to
  enough_copied rows least =
      let cell = λ (p : ℕ → ℕ → Bool) (r c : ℕ). cond (p r c) (overlaid (from.at r c) (to.at r c)) (to.at r c) in
      same_contents (copied_where from to (before rows 0)) (copied from to) refl refl (λ r c.
      let alike = λ (e : (before rows 0 r c ≡ true) ⊎ (from.at r c ≡ hole)). ap (λ v. cond (within to.rows to.places r c) v hole) (same_cell (before rows 0) (λ r c. true) r c e) in
      elim (cases_lt r rows) [
        | inl h ↦ alike (inl (before_end rows r c h))
        | inr h ↦ elim (cases_lt r to.rows) [
          | inl l ↦ alike (inr (hole_is (from.at r c) (from.beyond r c (not_within_row from.rows from.places r c (omega (arith, least))))))
          | inr o ↦
              let out = not_within_row to.rows to.places r c o in
              ap (λ b. cond b (cell (before rows 0) r c) hole) out ∙ sym (ap (λ b. cond b (cell (λ r c. true) r c) hole) out)
        ]
      ])
