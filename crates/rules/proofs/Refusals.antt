-- The refusal of a call, computed by its checks in their order: it is the first line that holds.
use Rattle.std.proofs.Common.{◌≡◌, ℕ, ◌+◌, ◌<◌, ◌≤◌, Bool, true, false, not, ◌&&◌, ltb, leb, ◌⊎◌, List, length, Some, None, Option, sym, refl, ap, ◌∙◌, subst, inl, inr, arith}
use Rattle.std.proofs.lemmas.Bool.{cases_Bool, cases_lt, both_ways, and_parts, and_from, not-true, not_from_false, leb-true, le-leb, ltb-true, lt-ltb}
use Rattle.algebra.specs.Algebra.{Field}
use Rattle.shelves.specs.Contents.{is_hole}
use Rattle.rules.specs.Codes.{differ}
use Rattle.rules.specs.Search.{lowest, lowest_pair, or_else}
use Rattle.rules.specs.States.{State, k, p, n, m, cell, symbol_at, fits, audited, sound, misfit, unsound_count}
use Rattle.rules.specs.Calls.{Call, fit, intake, cross, begin, step, totals, first, mend, audit, record_of, read, write, refused, rank, wants_intake}
use Rattle.rules.specs.Updates.{walking, over, allowed, Worked, worked_misfit}
use Rattle.rules.specs.Promises.{Line, unfit, early, again, no_row, no_record, no_read, no_write, long_read, long_write, bad_read, bad_write, bad_parity, block_hole, card_hole}
use Rattle.rules.specs.Promises.{misfit_intake, misfit_cross, misfit_mend, too_many, not_walking, not_over, still_walking, Promise, rejected}
use Rattle.rules.specs.declared.Refusal.{Refusal}
use Rattle.rules.specs.declared.Refusal.TheVariants.{DoesNotFit, NotTakenIn, TakenInAlready, NoSuchRow, BadSpan, Unsound, Unreadable, Misfit, TooManyUnsound, WrongPhase, StillWalking}
use Rattle.rules.specs.declared.Round.{Round}
use Rattle.rules.specs.declared.Round.TheVariants.{Resting, Walking, Over}
use Rattle.rules.proofs.Found.{lowest_pair_alike}
use Rattle.rules.proofs.Tables.{combination_same}
use Rattle.rules.proofs.Working.{worked_blocks, worked_exist, worked_unique}

-- a refusal where a test passes, and one that names what a search finds
abbrev pub guard : Bool → Refusal → Option Refusal
guard true r = Some r
guard false r = None

abbrev pub naming : {A : Type 0} → (A → Refusal) → Option A → Option Refusal
naming name None = None
naming name (Some x) = Some (name x)

abbrev pub walks_at : Round → Option ℕ
walks_at Resting = None
walks_at (Walking row) = Some row
walks_at Over = None

pub walks_at_row : (r : Round) (row : ℕ) → walks_at r ≡ Some row → r ≡ Walking row
walks_at_row Resting row e = absurd cc
walks_at_row (Walking at) row e = cc
walks_at_row Over row e = absurd cc

module _ {X : Type 0} (F : Field X) (s : State X) where
  -- what is found is a line of this rank that holds
  abbrev pub Holds : Call X → ℕ → Option Refusal → Type 0
  Holds c b o = (r : Refusal) → o ≡ Some r → (rank r ≡ b) × Line F s c r

  -- The checks of a call, in the order of their ranks.
  pub data Checks (c : Call X) : ℕ → Type 0 where
    end : {after : ℕ} → Checks c after
    check : {after : ℕ} (b : ℕ) → after < b → (o : Option Refusal) → Holds c b o → Checks c b → Checks c after

  abbrev pub first_of : {c : Call X} {after : ℕ} → Checks c after → Option Refusal
  first_of end = None
  first_of (check b l o holds rest) = or_else o (first_of rest)

  data Listed {c : Call X} (q : Refusal) : (after : ℕ) → Checks c after → Type 0 where
    here : {after b : ℕ} {l : after < b} {o : Option Refusal} {holds : Holds c b o} {rest : Checks c b} → o ≡ Some q → Listed q _ (check b l o holds rest)
    later : {after b : ℕ} {l : after < b} {o : Option Refusal} {holds : Holds c b o} {rest : Checks c b} → Listed q _ rest → Listed q _ (check b l o holds rest)

  line_of : {c : Call X} {q : Refusal} {after : ℕ} {cs : Checks c after} → Listed q _ cs → Line F s c q
  line_of {c} {q} (here {holds = holds} e) = (holds q e).1
  line_of (later h) = line_of h

  above : {c : Call X} {q : Refusal} {after : ℕ} {cs : Checks c after} → Listed q _ cs → after < rank q
  above {c} {q} (here {l = l} {holds = holds} e) = omega (arith, (holds q e).0)
  above (later {l = l} h) = omega (arith, above h)

  -- nothing is found by any check, or this by the first that finds something
  abbrev Settled : {c : Call X} {after : ℕ} → Checks c after → Option Refusal → Type 0
  Settled cs None = (q : Refusal) → Listed q _ cs → ⊥
  Settled cs (Some r) = Listed r _ cs × ((q : Refusal) → Listed q _ cs → (q ≡ r) ⊎ (rank r < rank q))

  settled : {c : Call X} {after : ℕ} (cs : Checks c after) → Settled cs (first_of cs)
  settled end = λ q h. elim h [ ]
  settled (check b l None holds rest) = wider (first_of rest) (settled rest)
    where
      past : {q : Refusal} → Listed q _ (check b l None holds rest) → Listed q _ rest
      past (here e) = absurd cc
      past (later h) = h

      wider : (o : Option Refusal) → Settled rest o → Settled (check b l None holds rest) o
      wider None none = λ q h. none q (past h)
      wider (Some r) (listed, least) = (later listed, λ q h. least q (past h))
  settled (check b l (Some r) holds rest) = (here refl, λ q. after_it)
    where
      after_it : {q : Refusal} → Listed q _ (check b l (Some r) holds rest) → (q ≡ r) ⊎ (rank r < rank q)
      after_it (here e) = inl (cc)
      after_it (later h) = inr (omega (arith, (holds r refl).0, above h))

  -- how a check shows its line
  pub guarded : {c : Call X} (t : Bool) (r : Refusal) → (t ≡ true → Line F s c r) → Holds c (rank r) (guard t r)
  guarded {c} true r line q e = let same : r ≡ q = cc in (ap rank (sym same), subst (Line F s c) same (line refl))
  guarded false r line q e = absurd cc

  pub named : {c : Call X} {b : ℕ} {A : Type 0} (name : A → Refusal) (o : Option A) → ((x : A) → rank (name x) ≡ b) → ((x : A) → o ≡ Some x → Line F s c (name x)) → Holds c b (naming name o)
  named name None ranked line q e = absurd cc
  named {c} name (Some x) ranked line q e = let same : name x ≡ q = cc in (ap rank (sym same) ∙ ranked x, subst (Line F s c) same (line x refl))

  -- the rows that a write looks at: its own, and then the parity rows
  abbrev pub write_rows : ℕ → Bool → Option Refusal
  write_rows row false = Some (Unsound row (audited F s row))
  write_rows row true = naming (λ i. Unsound (k s + i) (audited F s (k s + i))) (lowest (p s) (λ h. not (sound F s (k s + h))))

  pub write_rows_hold : (row start : ℕ) (xs : List X) (t : Bool) → sound F s row ≡ t → Holds (write row start xs) 6 (write_rows row t)
  write_rows_hold row start xs false e q f =
      let same : Unsound row (audited F s row) ≡ q = cc in (ap rank (sym same), subst (Line F s (write row start xs)) same (bad_write row start xs e))
  write_rows_hold row start xs true e q f = named _ _ (λ i. refl) (λ i g. bad_parity row start xs i e g) q f

  -- what mend finds where the tray fits and not too many rows are unsound
  pub mend_misfit : (t : Bool) → (fits F s && leb (unsound_count F s) (p s)) ≡ t → Option Refusal
  mend_misfit false e = None
  mend_misfit true e =
      let both = and_parts _ _ e in
      naming (λ x. Misfit (k s + x.0) x.1) (lowest_pair (p s) (n s) (worked_misfit F s (worked_blocks F s both.0 (leb-true _ _ both.1))))

  pub mend_misfit_holds : (t : Bool) (e : (fits F s && leb (unsound_count F s) (p s)) ≡ t) → Holds mend 9 (mend_misfit t e)
  unfolding mend_misfit
  mend_misfit_holds false e q f = absurd cc
  mend_misfit_holds true e q f =
      let both = and_parts _ _ e in
      named _ _ (λ x. refl) (λ x g. misfit_mend _ x.0 x.1 (worked_exist F s both.0 (leb-true _ _ both.1)) g) q f

  -- the checks of one call, after the two that all calls share
  abbrev pub own : (c : Call X) → Checks c 2
  own fit = end
  own intake =
      check 3 (omega arith) (guard s.taken_in TakenInAlready) (guarded _ _ again)
      (check 7 (omega arith) (naming (λ x. Unreadable x.0 x.1) (lowest_pair (k s + p s) (n s) (λ r t. is_hole (cell s r t))))
      (named _ _ (λ x. refl) (λ x e. block_hole x.0 x.1 e))
      (check 9 (omega arith) (naming (λ x. Misfit (k s + x.0) x.1) (lowest_pair (p s) (n s) (misfit F s)))
      (named _ _ (λ x. refl) (λ x e. misfit_intake x.0 x.1 e)) end))
  own cross =
      check 7 (omega arith) (naming (λ x. Unreadable x.0 (n s + x.1)) (lowest_pair (k s + p s) (m s) (λ r t. is_hole (cell s r (n s + t)))))
      (named _ _ (λ x. refl) (λ x e. card_hole x.0 x.1 e))
      (check 9 (omega arith) (naming (λ x. Misfit (k s + x.0) (n s + x.1)) (lowest_pair (p s) (m s) (λ h t. misfit F s h (n s + t))))
      (named _ _ (λ x. refl) (λ x e. misfit_cross x.0 x.1 e)) end)
  own begin = check 11 (omega arith) (naming StillWalking (walks_at s.round)) (named _ _ (λ x. refl) (λ row e. still_walking row (walks_at_row _ row e))) end
  own step = check 10 (omega arith) (guard (not (walking s.round)) WrongPhase) (guarded _ _ λ e. not_walking (not-true _ e)) end
  own totals = check 10 (omega arith) (guard (not (over s.round)) WrongPhase) (guarded _ _ λ e. not_over (not-true _ e)) end
  own first = end
  own mend =
      check 8 (omega arith) (guard (ltb (p s) (unsound_count F s)) (TooManyUnsound (unsound_count F s))) (guarded _ _ λ e. too_many (ltb-true _ _ e))
      (check 9 (omega arith) (mend_misfit _ refl) (mend_misfit_holds _ refl) end)
  own (audit row) = check 4 (omega arith) (guard (leb (k s + p s) row) (NoSuchRow row)) (guarded _ _ λ e. no_row row (leb-true _ _ e)) end
  own (record_of row) = check 4 (omega arith) (guard (leb (k s + p s) row) (NoSuchRow row)) (guarded _ _ λ e. no_record row (leb-true _ _ e)) end
  own (read row start count) =
      check 4 (omega arith) (guard (leb (k s + p s) row) (NoSuchRow row)) (guarded _ _ λ e. no_read row start count (leb-true _ _ e))
      (check 5 (omega arith) (guard (not (allowed s start count)) (BadSpan start)) (guarded _ _ λ e. long_read row start count (not-true _ e))
      (check 6 (omega arith) (guard (not (sound F s row)) (Unsound row (audited F s row))) (guarded _ _ λ e. bad_read row start count (not-true _ e)) end))
  own (write row start xs) =
      check 4 (omega arith) (guard (leb (k s) row) (NoSuchRow row)) (guarded _ _ λ e. no_write row start xs (leb-true _ _ e))
      (check 5 (omega arith) (guard (not (allowed s start (length xs))) (BadSpan start)) (guarded _ _ λ e. long_write row start xs (not-true _ e))
      (check 6 (omega arith) (write_rows row (sound F s row)) (write_rows_hold row start xs _ refl) end))

  abbrev pub checks : (c : Call X) → Checks c 0
  checks c =
      check 1 (omega arith) (guard (not (fits F s)) DoesNotFit) (guarded _ _ λ e. unfit c (not-true _ e))
      (check 2 (omega arith) (guard (wants_intake c && not s.taken_in) NotTakenIn)
      (guarded _ _ λ e. early c (and_parts _ _ e).0 (not-true _ (and_parts _ _ e).1)) (own c))

  -- a refusal among the checks that comes no later than r, and is r itself if it comes at the same time
  abbrev Before : Call X → Refusal → Type 0
  Before c r = (q : Refusal) × Listed q _ (checks c) × (rank q ≤ rank r) × (rank q ≡ rank r → q ≡ r)

  itself : (c : Call X) (r : Refusal) → Listed r _ (checks c) → Before c r
  itself c r h = (r, h, omega arith, λ _. refl)

  owned : (c : Call X) (r : Refusal) → Listed r _ (own c) → Before c r
  owned c r h = itself c r (later (later h))

  guards : (t : Bool) (r : Refusal) → t ≡ true → guard t r ≡ Some r
  guards t r e = rw e

  mend_misfit_found : (t : Bool) (e : (fits F s && leb (unsound_count F s) (p s)) ≡ t) → t ≡ true → (blocks : ℕ → ℕ → X) (i place : ℕ) → Worked F s blocks
      → lowest_pair (p s) (n s) (worked_misfit F s blocks) ≡ Some (i, place) → mend_misfit t e ≡ Some (Misfit (k s + i) place)
  unfolding mend_misfit
  mend_misfit_found false e is blocks i place worked f = absurd (both_ways false refl is)
  mend_misfit_found true e is blocks i place worked f =
      let both = and_parts _ _ e in
      let few = leb-true _ _ both.1 in
      let same = worked_unique F s both.0 few _ blocks (worked_exist F s both.0 few) worked in
      ap (naming λ x. Misfit (k s + x.0) x.1)
      (lowest_pair_alike (p s) (n s) _ (worked_misfit F s blocks) (λ h t o l.
      ap (λ x. sound F s (k s + h) && differ F x (symbol_at F s (k s + h) t)) (combination_same F (k s) _ _ h (λ j u. same j t u l))) ∙ f)

  -- Whatever line holds, one of the checks comes no later.
  before : {c : Call X} {r : Refusal} → Line F s c r → Before c r
  before (unfit c e) = itself c _ (here (guards _ _ (not_from_false _ e)))
  before (early c w e) = itself c _ (later (here (guards _ _ (and_from _ _ w (not_from_false _ e)))))
  before (again e) = owned intake _ (here (guards _ _ e))
  before (no_row row l) = owned (audit row) _ (here (guards _ _ (le-leb _ _ l)))
  before (no_record row l) = owned (record_of row) _ (here (guards _ _ (le-leb _ _ l)))
  before (no_read row start count l) = owned (read row start count) _ (here (guards _ _ (le-leb _ _ l)))
  before (no_write row start xs l) = owned (write row start xs) _ (here (guards _ _ (le-leb _ _ l)))
  before (long_read row start count e) = owned (read row start count) _ (later (here (guards _ _ (not_from_false _ e))))
  before (long_write row start xs e) = owned (write row start xs) _ (later (here (guards _ _ (not_from_false _ e))))
  before (bad_read row start count e) = owned (read row start count) _ (later (later (here (guards _ _ (not_from_false _ e)))))
  before (bad_write row start xs e) = owned (write row start xs) _ (later (later (here (ap (write_rows row) e))))
  before (bad_parity row start xs i e f) = owned (write row start xs) _ (later (later (here (ap (write_rows row) e ∙ ap (naming _) f))))
  before (block_hole row place e) = owned intake _ (later (here (ap (naming _) e)))
  before (card_hole row c e) = owned cross _ (here (ap (naming _) e))
  before (misfit_intake i place e) = owned intake _ (later (later (here (ap (naming _) e))))
  before (misfit_cross i c e) = owned cross _ (later (here (ap (naming _) e)))
  before (misfit_mend blocks i place worked e) =
      elim (cases_Bool (fits F s)) [
        | inr no-fit ↦ (DoesNotFit, here (guards _ _ (not_from_false _ no-fit)), omega arith, λ z. absurd (omega arith))
        | inl sizes ↦ elim (cases_lt (p s) (unsound_count F s)) [
          | inl many ↦ (TooManyUnsound (unsound_count F s), later (later (here (guards _ _ (lt-ltb _ _ many)))), omega arith, λ z. absurd (omega arith))
          | inr few ↦ owned mend _ (later (here (mend_misfit_found _ refl (and_from _ _ sizes (le-leb _ _ few)) blocks i place worked e)))
        ]
      ]
  before (too_many l) = owned mend _ (here (guards _ _ (lt-ltb _ _ l)))
  before (not_walking e) = owned step _ (here (guards _ _ (not_from_false _ e)))
  before (not_over e) = owned totals _ (here (guards _ _ (not_from_false _ e)))
  before (still_walking row e) = owned begin _ (here (ap (λ r. naming StillWalking (walks_at r)) e))

  -- the refusal of a call, if it has one
  abbrev pub refusal : Call X → Option Refusal
  refusal c = first_of (checks c)

  pub unrefused : (c : Call X) → refusal c ≡ None → (q : Refusal) → Line F s c q → ⊥
  unrefused c e q line = let b = before line in subst (Settled (checks c)) e (settled (checks c)) b.0 b.1

  module _ (c : Call X) (r : Refusal) (e : refusal c ≡ Some r) where
    least : Settled (checks c) (Some r)
    least = subst (Settled (checks c)) e (settled (checks c))

    pub refused_line : Line F s c r
    refused_line = line_of least.0

    pub refused_promise : Promise F s c (refused r) s
    refused_promise = rejected r refused_line λ q less line.
        let b = before line in
        elim (least.1 b.0 b.1) [ inl same ↦ omega (arith, b.2, ap rank same) | inr more ↦ omega (arith, b.2) ]

    -- and no other line is the first
    pub refused_once : (q : Refusal) → Line F s c q → ((o : Refusal) → rank o < rank q → Line F s c o → ⊥) → q ≡ r
    refused_once q line none =
        let b = before line in
        let at : rank b.0 ≡ rank q = elim (cases_lt (rank b.0) (rank q)) [ inl less ↦ absurd (none _ less (line_of b.1)) | inr more ↦ omega (arith, b.2) ] in
        elim (least.1 b.0 b.1) [ inl same ↦ sym (b.3 at) ∙ same | inr more ↦ absurd (none r (omega (arith, at)) refused_line) ]
