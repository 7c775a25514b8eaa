-- How many numbers below a bound pass a test, and which is the r-th of them.
use Rattle.std.proofs.Common.{◌≡◌, ℕ, zero, suc, ◌+◌, ◌<◌, ◌≤◌, Bool, true, false, cond, not, ◌&&◌, eqb, ◌⊎◌, List, [], ◌∷◌, length, sym, refl, ap, ◌∙◌, ap₂, inl, inr, add-zero, add-suc, arith}
use mathlib.Core.List.Memᴰ.{cases_cons as cases_in}
use mathlib.Core.List.Memᴰ.{head as here}
use mathlib.Core.List.Memᴰ.{not-nil as none_in}
use mathlib.Core.List.Memᴰ.{tail as later}
use mathlib.Core.List.{Memᴰ as In}
use native.Mathlib.Decide.{ℕ_discrete}
use Rattle.std.proofs.lemmas.Bool.{cases_Bool, cases_order, and_parts, and_cases, not-true, both_ways, ne_eqb, eqb-true, eqb-false, eq-eqb}
use Rattle.rules.specs.Search.{counted}
use Rattle.algebra.specs.Algebra.{Field}
use Rattle.algebra.proofs.Ring.{add-zero as add_𝟘}
use Rattle.algebra.specs.Sum.{sum_to}
use Rattle.algebra.proofs.Sums.{sum_below}

pub counted_here : (n : ℕ) (test : ℕ → Bool) → test n ≡ true → counted (suc n) test ≡ counted n test + 1
counted_here n test e = rw e

pub counted_skip : (n : ℕ) (test : ℕ → Bool) → test n ≡ false → counted (suc n) test ≡ counted n test
counted_skip n test e = rw e (omega arith)

-- 1 where a test passes
one_if : (b : Bool) → cond b 1 0 ≤ 1
one_if true = omega arith
one_if false = omega arith

one_of : (b : Bool) → cond b 1 0 + cond (not b) 1 0 ≡ 1
one_of true = refl
one_of false = refl

pub counted_same : (n : ℕ) (f g : ℕ → Bool) → ((i : ℕ) → i < n → f i ≡ g i) → counted n f ≡ counted n g
counted_same zero f g e = refl
counted_same (suc n) f g e = ap₂ (λ c b. c + cond b 1 0) (counted_same n f g λ i h. e i (omega arith)) (e n (omega arith))

pub counted_none : (n : ℕ) (test : ℕ → Bool) → ((i : ℕ) → i < n → test i ≡ false) → counted n test ≡ 0
counted_none zero test e = refl
counted_none (suc n) test e = counted_skip n test (e n (omega arith)) ∙ counted_none n test (λ i h. e i (omega arith))

pub counted_not : (n : ℕ) (test : ℕ → Bool) → counted n test + counted n (λ i. not (test i)) ≡ n
counted_not zero test = refl
counted_not (suc n) test = omega (arith, counted_not n test, one_of (test n))

pub counted_add : (m n : ℕ) (test : ℕ → Bool) → counted (m + n) test ≡ counted m test + counted n (λ i. test (m + i))
counted_add m zero test = rw (add-zero m) (omega arith)
counted_add m (suc n) test = rw add-suc (omega (arith, counted_add m n test))

counted_mono : (m n : ℕ) (test : ℕ → Bool) → m ≤ n → counted m test ≤ counted n test
counted_mono m zero test h = let e : m ≡ 0 = omega arith in rw e (omega arith)
counted_mono m (suc n) test h = elim (ℕ_discrete m (suc n)) [ yes e ↦ rw e (omega arith) | no ne ↦ omega (arith, counted_mono m n test (omega arith)) ]

pub counted_before : (i n : ℕ) (test : ℕ → Bool) → i < n → test i ≡ true → counted i test < counted n test
counted_before i n test h e = omega (arith, counted_mono (suc i) n test h, counted_here i test e)

-- the numbers below n that pass
abbrev pub passing : ℕ → (ℕ → Bool) → List ℕ
passing zero test = []
passing (suc n) test = cond (test n) (n ∷ passing n test) (passing n test)

pub length_passing : (n : ℕ) (test : ℕ → Bool) → length (passing n test) ≡ counted n test
length_passing zero test = refl
length_passing (suc n) test =
    elim (cases_Bool (test n)) [ inl e ↦ rw e (omega (arith, length_passing n test)) | inr e ↦ rw e (omega (arith, length_passing n test)) ]

pub in_passing : (n : ℕ) (test : ℕ → Bool) (i : ℕ) → i < n → test i ≡ true → In i (passing n test)
in_passing zero test i h e = absurd (omega arith)
in_passing (suc n) test i h e =
    elim (ℕ_discrete i n) [
      | yes at ↦ rw (← at, e) (here refl)
      | no ne ↦ go (test n) (in_passing n test i (omega arith) e)
    ]
  where
    go : (b : Bool) → In i (passing n test) → In i (cond b (n ∷ passing n test) (passing n test))
    go true m = later m
    go false m = m

-- a test without one number
abbrev without : ℕ → (ℕ → Bool) → ℕ → Bool
without t test i = test i && not (eqb i t)

without_same : (t : ℕ) (test : ℕ → Bool) (i : ℕ) → (i ≡ t → ⊥) → without t test i ≡ test i
without_same t test i ne = rw (ne_eqb i t ne) (go (test i))
  where
    go : (b : Bool) → (b && true) ≡ b
    go true = refl
    go false = refl

counted_without : (n t : ℕ) (test : ℕ → Bool) → counted n test ≤ counted n (without t test) + 1
counted_without zero t test = omega arith
counted_without (suc n) t test =
    elim (ℕ_discrete n t) [
      | yes e ↦ omega (arith, one_if (test n), counted_same n (without t test) test (λ i h. without_same t test i (omega arith)))
      | no ne ↦ rw (without_same t test n ne) (omega (arith, counted_without n t test))
    ]

-- If all that pass are in a list, they are no more than the list is long.
pub counted_among : (rows : List ℕ) (n : ℕ) (test : ℕ → Bool) → ((i : ℕ) → i < n → test i ≡ true → In i rows) → counted n test ≤ length rows
counted_among [] n test all = omega (arith, counted_none n test (λ i h. elim (cases_Bool (test i)) [ inl e ↦ absurd (none_in (all i h e)) | inr e ↦ e ]))
counted_among (t ∷ rows) n test all = omega (arith, counted_without n t test, counted_among rows n (without t test) rest)
  where
    rest : (i : ℕ) → i < n → without t test i ≡ true → In i rows
    rest i h e =
        elim (cases_in (all i h (and_parts _ _ e).0)) [
          | inl at ↦ absurd (both_ways (eqb i t) (not-true _ (and_parts _ _ e).1) (eq-eqb i t at))
          | inr in_rows ↦ in_rows
        ]

-- the r-th number below n that passes
abbrev pub select : ℕ → (ℕ → Bool) → ℕ → ℕ
select zero test r = 0
select (suc n) test r = cond (test n && eqb (counted n test) r) n (select n test r)

pub record Selected (n : ℕ) (test : ℕ → Bool) (r i : ℕ) : Type 0 where
  pub below : i < n
  pub passes : test i ≡ true
  pub rank : counted i test ≡ r

pub selected : (n : ℕ) (test : ℕ → Bool) (r : ℕ) → r < counted n test → Selected n test r (select n test r)
selected zero test r h = absurd (omega arith)
selected (suc n) test r h = go _ refl (selected n test r)
  where
    go : (b : Bool) → (test n && eqb (counted n test) r) ≡ b → (r < counted n test → Selected n test r (select n test r)) → Selected (suc n) test r (cond b n (select n test r))
    go true e rest = record { below = omega arith; passes = (and_parts _ _ e).0; rank = eqb-true _ _ (and_parts _ _ e).1 }
    go false e rest = record { below = omega (arith, s.below); passes = s.passes; rank = s.rank }
      where
        s : Selected n test r (select n test r)
        s = rest (elim (and_cases (test n) _ e) [
          | inl skip ↦ omega (arith, counted_skip n test skip)
          | inr ne ↦ omega (arith, one_if (test n), eqb-false (counted n test) r ne)
        ])

same_rank : (test : ℕ → Bool) (i j : ℕ) → test i ≡ true → test j ≡ true → counted i test ≡ counted j test → i ≡ j
same_rank test i j e f same =
    elim (cases_order i j) [
      | inl eq ↦ eq
      | inr (inl less) ↦ absurd (omega (arith, counted_before i j test less e))
      | inr (inr more) ↦ absurd (omega (arith, counted_before j i test more f))
    ]

pub select_rank : (n : ℕ) (test : ℕ → Bool) (i : ℕ) → i < n → test i ≡ true → select n test (counted i test) ≡ i
select_rank n test i h e = let s = selected n test (counted i test) (counted_before i n test h e) in same_rank test _ i s.passes e s.rank

select_more : (n : ℕ) (test : ℕ → Bool) (r : ℕ) → r < counted n test → select (suc n) test r ≡ select n test r
select_more n test r h =
    let s = selected n test r h in
    let t = selected (suc n) test r (omega arith) in
    same_rank test _ _ t.passes s.passes (t.rank ∙ sym s.rank)

-- A sum of which only the passing terms count.
pub sum_selected : {A : Type 0} (F : Field A) (n : ℕ) (test : ℕ → Bool) (f : ℕ → A) → ((i : ℕ) → i < n → test i ≡ false → f i ≡ F.zer)
    → sum_to F n f ≡ sum_to F (counted n test) (λ r. f (select n test r))
sum_selected {A} F zero test f off = refl
sum_selected {A} F (suc n) test f off =
    go (cases_Bool (test n)) (sum_selected F n test f (λ i h. off i (omega arith)) ∙ sum_below F (counted n test) _ _ λ r h. ap f (sym (select_more n test r h)))
  where
    g : ℕ → A
    g r = f (select (suc n) test r)

    go : (test n ≡ true) ⊎ (test n ≡ false) → sum_to F n f ≡ sum_to F (counted n test) g → sum_to F (suc n) f ≡ sum_to F (counted (suc n) test) g
    go (inl e) rest =
        let c : suc (counted n test) ≡ counted (suc n) test = omega (arith, counted_here n test e) in
        ap₂ F.add rest (ap f (sym (select_rank (suc n) test n (omega arith) e))) ∙ ap (λ c. sum_to F c g) c
    go (inr e) rest = ap₂ F.add rest (off n (omega arith) e) ∙ add_𝟘 F _ ∙ ap (λ c. sum_to F c g) (sym (counted_skip n test e))
