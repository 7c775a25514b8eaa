-- When two contents are equal, and what a put leaves.
use Rattle.std.proofs.Common.{◌≡◌, ℕ, ◌+◌, ◌*◌, ◌/◌, ◌%◌, ◌<◌, true, false, cond, ◌&&◌, eqb, ltb, ◌≢◌, sym, refl, ap, ◌∙◌, ap₂, eq-eqb, eqb-true, ltb-true, arith}
use mathlib.Core.Path.{fun_ext}
use mathlib.Core.HLevel.{is_prop→PathP, Π_prop}
use mathlib.Core.Bool.{Bool-set}
use lib.Arith.{digits_div, digits_mod}
use borrow.Author.Tests.{both_ways, clash}
use Rattle.shelves.specs.Contents.{Cell, symbol, hole, is_hole, within, Contents, filled, inside, with_cell, after_put}
use Rattle.algebra.proofs.Cases.{by_cases}
use Rattle.std.proofs.lemmas.Bool.{and_parts, and_from}

pub hole_is : {A : Type 0} (c : Cell A) → is_hole c ≡ true → c ≡ hole
hole_is (symbol x) e = absurd (clash e)
hole_is hole e = refl

pub same_contents : {A : Type 0} (s t : Contents A) → s.rows ≡ t.rows → s.places ≡ t.places → ((row place : ℕ) → s.at row place ≡ t.at row place) → s ≡ t
same_contents s t rows places at =
    let cells : s.at ≡ t.at = fun_ext λ row. fun_ext (at row) in
    λ i. record {
      rows = rows i;
      places = places i;
      at = cells i;
      beyond = is_prop→PathP (λ j. (row place : ℕ) → within (rows j) (places j) row place ≡ false → is_hole (cells j row place) ≡ true)
          (λ j. Π_prop λ row. Π_prop λ place. Π_prop λ e. Bool-set _ _) s.beyond t.beyond i;
    }

pub within_parts : (rows places row place : ℕ) → within rows places row place ≡ true → (row < rows) × (place < places)
within_parts rows places row place w = let q = and_parts _ _ w in (ltb-true _ _ q.0, ltb-true _ _ q.1)

pub none_within : (row place : ℕ) → within 0 0 row place ≡ false
none_within row place = by_cases (ltb row 0) (λ t. absurd (omega (arith, ltb-true row 0 t))) (λ f. rw f)

-- cells that are as they were
pub filled_same : {A : Type 0} (s : Contents A) (cells : ℕ → ℕ → Cell A) (row place : ℕ) → cells row place ≡ s.at row place
    → (filled s.rows s.places cells).at row place ≡ s.at row place
filled_same s cells row place e =
    by_cases (inside s row place) (λ is. rw is e) (λ out. let h = hole_is _ (s.beyond row place out) in rw (out, h))

same_place : (r c row place : ℕ) → (eqb r row && eqb c place) ≡ true → (r ≡ row) × (c ≡ place)
same_place r c row place t = let q = and_parts _ _ t in (eqb-true r row q.0, eqb-true c place q.1)

-- a cell beyond the sizes changes nothing
pub cell_beyond : {A : Type 0} (s : Contents A) (row place : ℕ) (cell : Cell A) → inside s row place ≡ false → with_cell s row place cell ≡ s
cell_beyond s row place cell out =
    same_contents (with_cell s row place cell) s refl refl (λ r c.
    by_cases (eqb r row && eqb c place)
    (λ t.
    let q = same_place r c row place t in
    let there : inside s r c ≡ false = ap₂ (λ a b. inside s a b) q.0 q.1 ∙ out in
    let h = hole_is _ (s.beyond r c there) in
    rw (there, h))
    (λ f. filled_same s (λ a b. cond (eqb a row && eqb b place) cell (s.at a b)) r c (rw f)))

-- cells of which one changed
pub cell_filled : {A : Type 0} (rows places : ℕ) (old new : ℕ → ℕ → Cell A) (row place : ℕ) (cell : Cell A) → new row place ≡ cell
    → ((r c : ℕ) → within rows places r c ≡ true → (eqb r row && eqb c place) ≡ false → new r c ≡ old r c)
    → filled rows places new ≡ with_cell (filled rows places old) row place cell
cell_filled rows places old new row place cell is others =
    same_contents (filled rows places new) (with_cell (filled rows places old) row place cell) refl refl (λ r c.
    by_cases (within rows places r c)
    (λ i. by_cases (eqb r row && eqb c place)
    (λ t. let q = same_place r c row place t in rw (i, t) (ap₂ new q.0 q.1 ∙ is))
    (λ f. rw (i, f) (others r c i f)))
    (λ o. rw o))

-- a put beyond the sizes changes nothing
pub put_beyond : {A : Type 0} (s : Contents A) (row place : ℕ) (x : A) → inside s row place ≡ false → after_put s row place x ≡ s
put_beyond s row place x out = cell_beyond s row place (symbol x) out

-- cells of which one changed to a symbol
pub put_filled : {A : Type 0} (rows places : ℕ) (old new : ℕ → ℕ → Cell A) (row place : ℕ) (x : A) → new row place ≡ symbol x
    → ((r c : ℕ) → within rows places r c ≡ true → (eqb r row && eqb c place) ≡ false → new r c ≡ old r c)
    → filled rows places new ≡ after_put (filled rows places old) row place x
put_filled rows places old new row place x is others = cell_filled rows places old new row place (symbol x) is others

-- each cell after a put inside the sizes
pub put_cell : {A : Type 0} (s : Contents A) (row place : ℕ) (x : A) (r c : ℕ) → inside s row place ≡ true
    → (after_put s row place x).at r c ≡ cond (eqb r row && eqb c place) (symbol x) (s.at r c)
put_cell s row place x r c here =
    by_cases (inside s r c)
    (λ i. rw i)
    (λ o. by_cases (eqb r row && eqb c place)
    (λ t. let q = same_place r c row place t in absurd (both_ways _ o (ap₂ (λ a b. inside s a b) q.0 q.1 ∙ here)))
    (λ f. let h = hole_is _ (s.beyond r c o) in rw (o, f, h)))

-- different rows or places have different indices, row after row
pub apart : (places r c row place : ℕ) → c < places → place < places → (eqb r row && eqb c place) ≡ false → r * places + c ≢ row * places + place
apart places r c row place h k f e =
    let q : r ≡ row = sym (digits_div r h) ∙ ap (λ n. n / places) e ∙ digits_div row k in
    let p : c ≡ place = sym (digits_mod r h) ∙ ap (λ n. n % places) e ∙ digits_mod row k in
    clash (sym f ∙ and_from _ _ (eq-eqb _ _ q) (eq-eqb _ _ p))
