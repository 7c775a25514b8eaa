-- For code: what `find_map` over a range finds, where the calls of its closure are known.
use Rattle.std.proofs.Common.{◌≡◌, ℕ, ◌+◌, ◌-◌, ◌<◌, ◌≤◌, Bool, true, false, Some, None, Option, MatchOption, IsSomeAnd, IfSome, IsTrue, option_map, sym, refl, ap, subst, ◌∙◌, arith}
use denote.Param.Members.{Mut}
use Rattle.std.specs.declared.ops.Range.{Range}
use Rattle.std.specs.Fn.{Called}
use Rattle.std.specs.Bool.{then_some}
use Rattle.std.specs.Iterator.Runs.{Run, SomeRun, AllItemsGive, IsFirstToGive}
use Rattle.std.proofs.iter.Yields.{nat_range_steps}
use Rattle.std.proofs.iter.runs.Sources.{range_runs}
use Rattle.std.proofs.lemmas.Option.{none-some, same_Some}
use Rattle.rules.specs.Search.{lowest, lowest_pair, pairs}
use Rattle.rules.proofs.Found.{lowest_some, lowest_none, none_lowest}
use Rattle.rules.proofs.Loops.{lowest_at, lowest_pair_at, lowest_pair_nowhere}

-- the number at a place of a run over a range
at_place : (p : Run nat_range_steps) (s : Range ℕ) (j k : ℕ) → p.from ≡ s → j < p.len → k ≡ s.start + j → p.at j ≡ Some k
at_place p s j k from l e = is (p.at j) ((range_runs p p.seen).3 j l ∙ ap Some (sym (e ∙ ap (λ (u : Range ℕ). u.start + j) (sym from))))
  where
    is : (o : Option ℕ) → option_map (λ y. y) o ≡ Some k → o ≡ Some k
    is None h = h
    is (Some x) h = h

-- what `find_map` says of the run of its calls, in order
abbrev pub FirstOfRun : {B F : Type 0} → Mut F (ℕ × Unit {0}) (Option B) → Range ℕ → F → Option B → Type 0
FirstOfRun g s f r = SomeRun nat_range_steps s (λ p. MatchOption r (IsTrue p.whole × AllItemsGive p g f None) (λ y. (i : ℕ) × (i < p.len) × (p.len ≡ i + 1) × IsFirstToGive p g f (Some y) None i))

-- The same of the numbers in the range, where a call on x leaves the closure as it was, and its answer has what is stated of x.
pub first_answer : {B F : Type 0} {g : Mut F (ℕ × Unit {0}) (Option B)} (s : Range ℕ) (f : F) (r : Option B) (Answers : ℕ → Option B → Type 0) → FirstOfRun g s f r
    → ((x : ℕ) (o : Option B) (q : F) → Called g f (x, tt) o q → (q ≡ f) × Answers x o)
    → MatchOption r ((k : ℕ) → s.start ≤ k → k < s.end → Answers k None)
    (λ y. (i : ℕ) × (s.start ≤ i) × (i < s.end) × Answers i (Some y) × ((k : ℕ) → s.start ≤ k → k < i → Answers k None))
first_answer {B} {F} {g} s f None Answers ran calls = λ k a b.
    let p = ran.0 in
    let at : p.at (k - s.start) ≡ Some k = at_place p s (k - s.start) k ran.1 (omega (arith, (range_runs p p.seen).1 ran.2.0, ap (λ (u : Range ℕ). u.end - u.start) ran.1)) (omega arith) in
    (calls k None f (subst (λ o. IfSome o (λ x. Called g f (x, tt) None f)) at (ran.2.1 (λ a r q c. (calls a.0 r q c).0) (k - s.start)))).1
first_answer {B} {F} {g} s f (Some y) Answers ran calls =
    let p = ran.0 in
    let i = ran.2.0 in
    let first = ran.2.3 (λ a r q c. (calls a.0 r q c).0) in
    let end : p.len ≤ s.end - s.start = omega (arith, (range_runs p p.seen).0, ap (λ (u : Range ℕ). u.end - u.start) ran.1) in
    let at : p.at i ≡ Some (s.start + i) = at_place p s i (s.start + i) ran.1 ran.2.1 refl in
    let none : (k : ℕ) → s.start ≤ k → k < s.start + i → Answers k None =
    λ k a b. let before : p.at (k - s.start) ≡ Some k = at_place p s (k - s.start) k ran.1 (omega (arith, ran.2.1)) (omega arith) in
    (calls k None f (subst (λ o. IsSomeAnd o (λ x. Called g f (x, tt) None f)) before (first.1 (k - s.start) (omega arith)))).1 in
    (s.start + i, omega arith, omega (arith, ran.2.1), (calls (s.start + i) (Some y) f (subst (λ o. IsSomeAnd o (λ x. Called g f (x, tt) (Some y) f)) at first.0)).1, none)

-- the lowest number that passes, and what is made of it
pub lowest_mapped : {B F : Type 0} {g : Mut F (ℕ × Unit {0}) (Option B)} (bound : ℕ) (f : F) (r : Option B) (test : ℕ → Bool) (make : ℕ → B)
    → FirstOfRun g (record { start = 0; end = bound }) f r
    → ((x : ℕ) (o : Option B) (q : F) → Called g f (x, tt) o q → (q ≡ f) × (x < bound → o ≡ then_some (test x) (make x)))
    → r ≡ option_map make (lowest bound test)
lowest_mapped {B} {F} {g} bound f r test make ran calls = go r (first_answer {g = g} (record { start = 0; end = bound }) f r (λ x o. x < bound → o ≡ then_some (test x) (make x)) ran calls)
  where
    missed : (b : Bool) (y : B) → None ≡ then_some b y → b ≡ false
    missed true y e = absurd (none-some y e)
    missed false y e = refl

    hit : (b : Bool) (x y : B) → Some x ≡ then_some b y → (b ≡ true) × (x ≡ y)
    hit true x y e = (refl, same_Some x y e)
    hit false x y e = absurd (none-some x (sym e))

    go : (o : Option B) → MatchOption o ((k : ℕ) → 0 ≤ k → k < bound → k < bound → None ≡ then_some (test k) (make k))
        (λ y. (i : ℕ) × (0 ≤ i) × (i < bound) × (i < bound → Some y ≡ then_some (test i) (make i)) × ((k : ℕ) → 0 ≤ k → k < i → k < bound → None ≡ then_some (test k) (make k)))
        → o ≡ option_map make (lowest bound test)
    go None none = sym (ap (option_map make) (none_lowest bound test (λ i l. missed (test i) (make i) (none i (omega arith) l l))))
    go (Some y) first =
        let i = first.0 in
        let is = hit (test i) y (make i) (first.3 first.2) in
        ap Some is.1 ∙ sym (ap (option_map make) (lowest_at bound test i first.2 is.0 (λ k l. missed (test k) (make k) (first.4 k (omega arith) l (omega (arith, first.2))))))

-- the lowest place of the lowest row that has one, where a call on a row answers the row with its lowest place
pub lowest_pair_mapped : {F : Type 0} {g : Mut F (ℕ × Unit {0}) (Option (ℕ × ℕ))} (rows places : ℕ) (f : F) (r : Option (ℕ × ℕ)) (test : ℕ → ℕ → Bool)
    → FirstOfRun g (record { start = 0; end = rows }) f r
    → ((x : ℕ) (o : Option (ℕ × ℕ)) (q : F) → Called g f (x, tt) o q → (q ≡ f) × (x < rows → o ≡ pairs x (lowest places (test x))))
    → r ≡ lowest_pair rows places test
lowest_pair_mapped {F} {g} rows places f r test ran calls =
    go r (first_answer {g = g} (record { start = 0; end = rows }) f r (λ x o. x < rows → o ≡ pairs x (lowest places (test x))) ran calls)
  where
    missed : (x : ℕ) → None ≡ pairs x (lowest places (test x)) → (t : ℕ) → t < places → test x t ≡ false
    missed x e = lowest_none places (test x) (none (lowest places (test x)) e)
      where
        none : (o : Option ℕ) → None ≡ pairs x o → o ≡ None
        none None e = refl
        none (Some t) e = absurd (none-some (x, t) e)

    go : (o : Option (ℕ × ℕ)) → MatchOption o ((k : ℕ) → 0 ≤ k → k < rows → k < rows → None ≡ pairs k (lowest places (test k)))
        (λ y. (i : ℕ) × (0 ≤ i) × (i < rows) × (i < rows → Some y ≡ pairs i (lowest places (test i))) × ((k : ℕ) → 0 ≤ k → k < i → k < rows → None ≡ pairs k (lowest places (test k))))
        → o ≡ lowest_pair rows places test
    go None none = sym (lowest_pair_nowhere rows places test (λ x t h l. missed x (none x (omega arith) h h) t l))
    go (Some y) first = at (lowest places (test first.0)) refl (first.3 first.2)
      where
        at : (o : Option ℕ) → lowest places (test first.0) ≡ o → Some y ≡ pairs first.0 o → Some y ≡ lowest_pair rows places test
        at None is e = absurd (none-some y (sym e))
        at (Some t) is e =
            let low = lowest_some places (test first.0) t is in
            e ∙ sym (lowest_pair_at rows places test first.0 t first.2 low.0 low.1 low.2 (λ x u h l. missed x (first.4 x (omega arith) h (omega (arith, first.2))) u l))
