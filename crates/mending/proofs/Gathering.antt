-- Gathering the rows that are not sound, one row after the other.
use Rattle.std.proofs.Common.{◌≡◌, ℕ, suc, ◌+◌, ◌<◌, ◌≤◌, Bool, true, false, cond, not, ◌||◌, eqb, List, [], ◌∷◌, length, take, set, zero, min, ◌-◌, ◌^◌, sym, refl, ap, ap₂, ◌∙◌, arith, eq-eqb, below_more}
use Rattle.std.specs.List.{list_any, count_by, range_with_len}
use Rattle.std.proofs.lemmas.Bool.Decides.{nat_tests}
use Rattle.std.proofs.lemmas.List.Sums.{sum_by-cons}
use Rattle.std.proofs.lemmas.List.{take_more_set}
use Rattle.std.proofs.lemmas.List.Folds.{list_any-append}
use Rattle.algebra.specs.Algebra.{Field}
use Rattle.rules.specs.Search.{counted}
use Rattle.rules.proofs.Counted.{counted_add, counted_same}
use Rattle.rules.specs.States.{State, k, p, sound, unsound_count}
use Rattle.mending.specs.declared.Damage.{Damage}
use Rattle.mending.specs.Plans.{flag, Gathered}
use Rattle.mending.proofs.Picking.{counted_hit, counted_miss}

-- a row is among the first few of a list
abbrev pub among : List ℕ → ℕ → ℕ → Bool
among rows count row = list_any (λ unsound. eqb unsound row) (take count rows)

-- of the rows below r, so many are not sound, and, where they are at most four, the list begins with just these
pub record Listed (sound : ℕ → Bool) (r : ℕ) (rows : List ℕ) (count : ℕ) : Type 0 where
  pub counts : count ≡ counted r (λ row. not (sound row))
  pub below : count ≤ 4 → (row : ℕ) → row < r → not (among rows count row) ≡ sound row
  pub above : count ≤ 4 → (row : ℕ) → r ≤ row → among rows count row ≡ false

among_more : (rows : List ℕ) (count r row : ℕ) → count < length rows → among (set rows count r) (count + 1) row ≡ (among rows count row || (eqb r row || false))
among_more rows count r row h =
    ap (list_any (λ unsound. eqb unsound row)) (take_more_set rows count r h) ∙ list_any-append (λ unsound. eqb unsound row) (take count rows) (r ∷ [])

module _ (sound : ℕ → Bool) (r : ℕ) (rows : List ℕ) (count : ℕ) (before : Listed sound r rows count) where
  -- a sound row more
  pub listed_sound : sound r ≡ true → Listed sound (r + 1) rows count
  listed_sound e = record {
    counts = before.counts ∙ sym (counted_miss (λ row. not (sound row)) r (ap not e));
    below = λ few. below_more _ r (before.below few) (ap not (before.above few r (omega arith)) ∙ sym e);
    above = λ few row h. before.above few row (omega arith);
  }

  counts_more : sound r ≡ false → count + 1 ≡ counted (r + 1) (λ row. not (sound row))
  counts_more e = ap (λ (v : ℕ). v + 1) before.counts ∙ sym (counted_hit (λ row. not (sound row)) r (ap not e))

  -- one that is not sound, and finds room
  pub listed_unsound : sound r ≡ false → count < length rows → Listed sound (r + 1) (set rows count r) (count + 1)
  listed_unsound e room = record {
    counts = counts_more e;
    below = λ few. below_more _ r
        (λ row h.
        let other : eqb r row ≡ false = grind (arith, nat_tests) in
        ap not (among_more rows count r row room) ∙ rw other (grind (arith, before.below (omega arith) row h)))
        (let here : eqb r r ≡ true = eq-eqb r r refl in ap not (among_more rows count r r room) ∙ rw (here, before.above (omega arith) r (omega arith)) (sym e));
    above = λ few row h.
        let other : eqb r row ≡ false = grind (arith, nat_tests) in
        among_more rows count r row room ∙ rw (other, before.above (omega arith) row (omega arith));
  }

  -- one that is not sound, and finds none
  pub listed_past : sound r ≡ false → 4 ≤ count → Listed sound (r + 1) rows (count + 1)
  listed_past e full = record { counts = counts_more e; below = λ few row h. absurd (omega arith); above = λ few row h. absurd (omega arith) }

-- a count over a range
counted_range : (test : ℕ → Bool) (a n : ℕ) → count_by test (range_with_len a n) ≡ counted n (λ i. test (a + i))
counted_range test a zero = refl
counted_range test a (suc n) =
    let first : counted 1 (λ i. test (a + i)) ≡ cond (test a) 1 0 = let z : a + 0 ≡ a = omega arith in rw z (omega arith) in
    let rest : counted n (λ i. test (a + 1 + i)) ≡ counted n (λ i. test (a + (1 + i))) = counted_same n _ _ (λ i h. let z : a + 1 + i ≡ a + (1 + i) = omega arith in ap test z) in
    let more : suc n ≡ 1 + n = omega arith in
    sum_by-cons (λ i. cond (test i) 1 0) a (range_with_len (a + 1) n) ∙ ap (λ c. cond (test a) 1 0 + c) (counted_range test (a + 1) n)
    ∙ sym (ap (λ m. counted m (λ i. test (a + i))) more ∙ counted_add 1 n (λ i. test (a + i)) ∙ ap₂ (λ x y. x + y) first (sym rest))

-- so many rows from a start on, none of them past the largest number
pub counted_from : (test : ℕ → Bool) (start n : ℕ) → start + n < 2 ^ 64 → count_by (λ i. test (min (start + i) (2 ^ 64 - 1))) (range_with_len 0 n) ≡ counted n (λ i. test (start + i))
counted_from test start n h =
    counted_range (λ i. test (min (start + i) (2 ^ 64 - 1))) 0 n ∙ counted_same n _ _ (λ i l. ap test (omega arith))

pub counted_first : (test : ℕ → Bool) (n : ℕ) → n < 2 ^ 64 → count_by (λ i. test (min (0 + i) (2 ^ 64 - 1))) (range_with_len 0 n) ≡ counted n test
counted_first test n h = counted_from test 0 n (omega arith) ∙ counted_same n _ _ (λ i l. ap test (omega arith))

pub listed_all : {X : Type 0} (F : Field X) (s : State X) (damage : Damage) (r : ℕ) → r ≡ k s + p s → Listed (sound F s) r damage.rows damage.count → Gathered F s damage
unfolding flag
listed_all F s damage r all listed = record {
  rows = λ few row h. listed.below (omega (arith, count)) row (omega arith);
  count = count;
}
  where
    count : damage.count ≡ unsound_count F s
    count = listed.counts ∙ ap (λ v. counted v (λ row. not (sound F s row))) all
