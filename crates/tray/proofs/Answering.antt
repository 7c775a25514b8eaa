-- From what a call tested to its promise.
use Rattle.std.proofs.Common.{◌≡◌, ℕ, ◌+◌, ◌-◌, ◌^◌, min, ◌<◌, ◌≤◌, true, false, not, List, length, Some, None, Option, Ok, Err, sym, refl, ap, ◌∙◌, subst, ap₂, arith, le-leb, set, zero-add, cond, Bool, Result}
use borrow.Author.Tests.{lt-leb}
use Rattle.std.specs.Option.{option_map}
use Rattle.std.specs.Result.{is_ok}
use Rattle.std.specs.Prelude.{map}
use Rattle.std.proofs.lemmas.Bool.{not-false}
use Rattle.std.proofs.lemmas.Bool.Decides.{nat_tests}
use Rattle.std.proofs.lemmas.List.{length-map}
use Rattle.algebra.specs.Algebra.{Field}
use Rattle.algebra.proofs.Cases.{by_cases}
use Rattle.shelves.specs.Contents.{Contents, is_hole, within}
use Rattle.shelves.proofs.Contents.{hole_is, same_contents}
use Rattle.writes.specs.Few.{Few}
use Rattle.tray.specs.State.{on_contents, answer_of, ExchangedAs, stretch_hole, stretch_misfit, stretch_found, stretch_checked, span_checked}
use Rattle.rules.specs.Calls.{Call, fit, intake, audit, read, write, cross, begin, step, totals, record_of, first, done, judged, copied, counts, entry_is, lowest_is, refused, wants_intake}
use Rattle.rules.specs.Promises.{Promise, accepted, did_fit, did_intake, did_audit, did_read, did_write, did_cross, did_begin, did_step, did_totals, did_record, did_first}
use Rattle.rules.specs.Search.{lowest, lowest_pair, counted}
use Rattle.rules.specs.Sheets.{entered, turn_answer, turned}
use Rattle.rules.specs.Updates.{next_row}
use Rattle.rules.specs.States.{State, unread, k, p, n, m, cell, fits, audited, sound, misfit, with_cells}
use Rattle.rules.specs.Updates.{allowed, carded, span, written, entry_of, entry_sound, entry_bad, walking, over}
use Rattle.rules.specs.declared.Action.TheVariants.{Begin, Step, Totals}
use Rattle.rules.specs.declared.Entry.{Entry}
use Rattle.rules.specs.declared.Refusal.{Refusal}
use Rattle.rules.specs.declared.Refusal.TheVariants.{DoesNotFit, NotTakenIn, TakenInAlready, NoSuchRow, BadSpan, Unsound, Unreadable, Misfit, WrongPhase, StillWalking}
use Rattle.rules.specs.declared.Round.{Round}
use Rattle.rules.specs.declared.Round.TheVariants.{Resting, Walking, Over}
use Rattle.rules.specs.declared.Sheet.{Sheet}
use Rattle.rules.specs.declared.Verdict.{Verdict}
use Rattle.rules.specs.Views.{seen, same_hole}
use Rattle.rules.specs.declared.Sizes.{Sizes}
use Rattle.writes.specs.Steps.{Readable, Writable}
use Rattle.rules.proofs.Found.{lowest_none, lowest_pair_alike}
use Rattle.rules.proofs.Rows.{fitting, sound_means}
use Rattle.rules.proofs.Refusals.{unrefused, refused_promise, walks_at}

-- what a search found, of an option that also says something of it
pub found_with : {B : Type 0} (f : ℕ → B) (o : Option ℕ) (i : ℕ) (v : B) → option_map {U = ℕ × B} (λ i. (i, f i)) o ≡ Some (i, v) → (o ≡ Some i) × (v ≡ f i)
found_with f None i v e = absurd cc
found_with {B} f (Some j) i v e =
    let pair : ◌≡◌ {A = ℕ × B} (j, f j) (i, v) = cc in
    let same : j ≡ i = ap (λ x. x.0) pair in
    (ap Some same, sym (ap (λ x. x.1) pair) ∙ ap f same)

pub none_with : {B : Type 0} (f : ℕ → B) (o : Option ℕ) → option_map {U = ℕ × B} (λ i. (i, f i)) o ≡ None → o ≡ None
none_with f None e = refl
none_with f (Some j) e = absurd cc

-- as many elements as symbols
pub mapped_length : {X B : Type 0} (meaning : X → B) (xs : List X) → length (map meaning xs) ≡ length xs
mapped_length meaning xs = length-map xs meaning

-- a tray that fits, over a shelf
module _ {X A : Type 0} (F : Field A) (meaning : X → A) (sizes : Sizes) (held : Contents X) (fit : fits F (seen meaning sizes held) ≡ true) where
  -- the first hole of a stretch, as code finds it on the shelf, is that of the state
  pub holes_found : (start places : ℕ) (o : Option (ℕ × ℕ)) → o ≡ lowest_pair (min (sizes.data_rows + sizes.parity_rows) (2 ^ 64 - 1)) places (λ r t. is_hole (held.at r (start + t)))
      → stretch_hole F (seen meaning sizes held) start places ≡ o
  holes_found start places o found =
      let f = fitting F (seen meaning sizes held) fit in
      let all : sizes.data_rows + sizes.parity_rows ≡ min (sizes.data_rows + sizes.parity_rows) (2 ^ 64 - 1) = omega arith in
      lowest_pair_alike (sizes.data_rows + sizes.parity_rows) places _ _ (λ r t h l. same_hole meaning (held.at r (start + t)))
      ∙ ap (λ v. lowest_pair v places (λ r t. is_hole (held.at r (start + t)))) all ∙ sym found

  -- a sound row has no hole
  pub sound_readable : (row : ℕ) → row < sizes.data_rows + sizes.parity_rows → sound F (seen meaning sizes held) row ≡ true → Readable F meaning sizes held row
  sound_readable row h e = record {
    fitting = fit;
    inside = h;
    filled = λ u l. sym (same_hole meaning (held.at row u)) ∙ ap is_hole (((sound_means F (seen meaning sizes held) row).0 e).symbols u l).1;
  }

  pub sound_writable : (row : ℕ) → row < sizes.data_rows → sound F (seen meaning sizes held) row ≡ true
      → lowest sizes.parity_rows (λ i. not (sound F (seen meaning sizes held) (sizes.data_rows + i))) ≡ None → Writable F meaning sizes held row
  sound_writable row h e none = record {
    fitting = fit;
    inside = h;
    own = sound_readable row (omega arith) e;
    parity = λ i l. sound_readable (sizes.data_rows + i) (omega arith) (not-false _ (lowest_none sizes.parity_rows _ none i l));
  }

-- the number that an accepted action answers
abbrev pub value : Result ℕ Refusal → ℕ
value (Ok x) = x
value (Err q) = 0

-- what an action of a round met, by its answer
began : (r : Round) (rows : ℕ) → is_ok (turn_answer r Begin rows) ≡ true → (walks_at r ≡ None) × (turned r Begin rows ≡ Walking 0)
began Resting rows e = (refl, refl)
began (Walking row) rows e = absurd cc
began Over rows e = (refl, refl)

not_begun : (r : Round) (rows : ℕ) (q : Refusal) → turn_answer r Begin rows ≡ Err q → (row : ℕ) × (r ≡ Walking row) × (q ≡ StillWalking row) × (turned r Begin rows ≡ r)
not_begun Resting rows q e = absurd cc
not_begun (Walking row) rows q e = (row, refl, cc, refl)
not_begun Over rows q e = absurd cc

stepped : (r : Round) (rows x : ℕ) → turn_answer r Step rows ≡ Ok x → (r ≡ Walking x) × (turned r Step rows ≡ next_row x rows)
stepped Resting rows x e = absurd cc
stepped (Walking row) rows x e = let same : row ≡ x = cc in (ap Walking same, ap (λ v. next_row v rows) same)
stepped Over rows x e = absurd cc

not_stepped : (r : Round) (rows : ℕ) (q : Refusal) → turn_answer r Step rows ≡ Err q → (walking r ≡ false) × (q ≡ WrongPhase) × (turned r Step rows ≡ r)
not_stepped Resting rows q e = (refl, cc, refl)
not_stepped (Walking row) rows q e = absurd cc
not_stepped Over rows q e = (refl, cc, refl)

totalled : (r : Round) (rows : ℕ) → is_ok (turn_answer r Totals rows) ≡ true → (over r ≡ true) × (value (turn_answer r Totals rows) ≡ rows) × (turned r Totals rows ≡ r)
totalled Resting rows e = absurd cc
totalled (Walking row) rows e = absurd cc
totalled Over rows e = (refl, refl, refl)

not_totalled : (r : Round) (rows : ℕ) (q : Refusal) → turn_answer r Totals rows ≡ Err q → (over r ≡ false) × (q ≡ WrongPhase) × (turned r Totals rows ≡ r)
not_totalled Resting rows q e = (refl, cc, refl)
not_totalled (Walking row) rows q e = (refl, cc, refl)
not_totalled Over rows q e = absurd cc

module _ {A : Type 0} (F : Field A) (s : State A) where
  -- what the check of a stretch refused: the first hole, or where there is none the first misfit
  stretch_refused : (C : Refusal → Type 0) (start : ℕ) (holes misfits : Option (ℕ × ℕ)) (q : Refusal) → stretch_found F s start holes misfits ≡ Err q
      → ((row t : ℕ) → holes ≡ Some (row, t) → C (Unreadable row (start + t)))
      → (holes ≡ None → (i t : ℕ) → misfits ≡ Some (i, t) → C (Misfit (k s + i) (start + t))) → C q
  stretch_refused C start (Some hole) misfits q e at_hole at_misfit = let is : Unreadable hole.0 (start + hole.1) ≡ q = cc in subst C is (at_hole hole.0 hole.1 refl)
  stretch_refused C start None (Some misfit) q e at_hole at_misfit = let is : Misfit (k s + misfit.0) (start + misfit.1) ≡ q = cc in subst C is (at_misfit refl misfit.0 misfit.1 refl)
  stretch_refused C start None None q e at_hole at_misfit = absurd cc

  stretch_passed : (start : ℕ) (holes misfits : Option (ℕ × ℕ)) (u : Unit {0}) → stretch_found F s start holes misfits ≡ Ok u → (holes ≡ None) × (misfits ≡ None)
  stretch_passed start (Some hole) misfits u e = absurd cc
  stretch_passed start None (Some misfit) u e = absurd cc
  stretch_passed start None None u e = (refl, refl)

  -- what the check of a span refused, and what it let pass
  span_refused : (C : Refusal → Type 0) (row start count : ℕ) (a b : Bool) (q : Refusal)
      → cond a (cond b (Ok (tt {0})) (Err (Unsound row (audited F s row)))) (Err (BadSpan start)) ≡ Err q
      → (a ≡ false → C (BadSpan start)) → (a ≡ true → b ≡ false → C (Unsound row (audited F s row))) → C q
  span_refused C row start count true true q e long unsound = absurd cc
  span_refused C row start count true false q e long unsound = let is : Unsound row (audited F s row) ≡ q = cc in subst C is (unsound refl refl)
  span_refused C row start count false b q e long unsound = let is : BadSpan start ≡ q = cc in subst C is (long refl)

  pub span_passed : (row start count : ℕ) (u : Unit {0}) → span_checked F s row start count ≡ Ok u → (allowed s start count ≡ true) × (sound F s row ≡ true)
  span_passed row start count u e = passed (allowed s start count) (sound F s row) e
    where
      passed : (a b : Bool) → cond a (cond b (Ok (tt {0})) (Err (Unsound row (audited F s row)))) (Err (BadSpan start)) ≡ Ok u → (a ≡ true) × (b ≡ true)
      passed true true e = (refl, refl)
      passed true false e = absurd cc
      passed false b e = absurd cc

  -- the tray with another round and another sheet
  abbrev pub with_round : Round → Sheet → State A
  with_round round sheet = record { sizes = s.sizes; contents = s.contents; taken_in = s.taken_in; round = round; sheet = sheet }

  -- the tray over a shelf that has come to hold other contents
  abbrev pub with_contents : Contents A → State A
  with_contents held = record { sizes = s.sizes; contents = held; taken_in = s.taken_in; round = s.round; sheet = s.sheet }

  pub unfit_refused : (c : Call A) → fits F s ≡ false → Promise F s c (refused DoesNotFit) s
  unfit_refused c e = refused_promise F s c DoesNotFit (rw e)

  pub fit_accepted : fits F s ≡ true → Promise F s fit done s
  fit_accepted e = accepted (unrefused F s fit (rw e)) did_fit

  pub intake_again : fits F s ≡ true → s.taken_in ≡ true → Promise F s intake (refused TakenInAlready) s
  intake_again e t = refused_promise F s intake TakenInAlready (rw (e, t))

  pub early_refused : (c : Call A) → wants_intake c ≡ true → fits F s ≡ true → s.taken_in ≡ false → Promise F s c (refused NotTakenIn) s
  early_refused c w e t = refused_promise F s c NotTakenIn (rw (e, w, t))

  -- a stretch that starts at place 0 is the block
  whole_holes : {o : Option (ℕ × ℕ)} → stretch_hole F s 0 (n s) ≡ o → lowest_pair (k s + p s) (n s) (λ r u. is_hole (cell s r u)) ≡ o
  whole_holes h = lowest_pair_alike (k s + p s) (n s) _ _ (λ r u _ _. ap (λ v. is_hole (cell s r v)) (sym (zero-add u))) ∙ h

  whole_misfits : {o : Option (ℕ × ℕ)} → stretch_misfit F s 0 (n s) ≡ o → lowest_pair (p s) (n s) (misfit F s) ≡ o
  whole_misfits h = lowest_pair_alike (p s) (n s) _ _ (λ i u _ _. ap (misfit F s i) (sym (zero-add u))) ∙ h

  module _ (e : fits F s ≡ true) (t : s.taken_in ≡ false) where
    pub intake_refused : (q : Refusal) → stretch_checked F s 0 (n s) ≡ Err q → Promise F s intake (refused q) s
    intake_refused q e' =
        stretch_refused (λ q. Promise F s intake (refused q) s) 0 _ _ q e'
        (λ row u h. subst (λ (v : ℕ). Promise F s intake (refused (Unreadable row v)) s) (sym (zero-add u)) (refused_promise F s intake (Unreadable row u) (rw (e, t, whole_holes h))))
        (λ h i u f. subst (λ (v : ℕ). Promise F s intake (refused (Misfit (k s + i) v)) s) (sym (zero-add u)) (refused_promise F s intake (Misfit (k s + i) u) (rw (e, t, whole_holes h, whole_misfits f))))

    pub intake_taken : (u : Unit {0}) → stretch_checked F s 0 (n s) ≡ Ok u → (held : Contents A) → held ≡ (with_cells s (carded F s)).contents
        → Promise F s intake done (record { sizes = s.sizes; contents = held; taken_in = true; round = s.round; sheet = s.sheet })
    intake_taken u passed held is =
        let none = stretch_passed 0 _ _ u passed in
        rw is (accepted (unrefused F s intake (rw (e, t, whole_holes none.0, whole_misfits none.1))) did_intake)

  -- an allowed span ends in the block
  pub allowed_fits : (start count : ℕ) → allowed s start count ≡ true → start + count ≤ n s
  allowed_fits start count a = grind (arith, nat_tests)

  -- the sizes of a tray that fits are no larger than a write asks
  pub few_of : fits F s ≡ true → Few s.sizes
  few_of sized = let f = fitting F s sized in record { data_rows = f.k_high; parity_rows = f.p_high; block = f.n_high; card = f.m_high }

  -- the number of rows, where no sum of the sizes overflows
  pub row_count : fits F s ≡ true → {v : ℕ} → v ≡ min (k s + p s) (2 ^ 64 - 1) → v ≡ k s + p s
  row_count sized is = let f = fitting F s sized in omega arith

  -- calls on a tray that is taken in
  module _ (e : fits F s ≡ true) (t : s.taken_in ≡ true) where
    pub audit_no_row : (row : ℕ) → k s + p s ≤ row → Promise F s (audit row) (refused (NoSuchRow row)) s
    audit_no_row row h = refused_promise F s (audit row) (NoSuchRow row) (rw (e, t, le-leb _ _ h))

    pub audit_judged : (row : ℕ) (v : Verdict) → row < k s + p s → v ≡ audited F s row → Promise F s (audit row) (judged v) s
    audit_judged row v h is =
        rw is (accepted (unrefused F s (audit row) (rw (e, t, lt-leb _ _ h))) (did_audit row))

    module _ (row start count : ℕ) where
      pub read_no_row : k s + p s ≤ row → Promise F s (read row start count) (refused (NoSuchRow row)) s
      read_no_row h = refused_promise F s (read row start count) (NoSuchRow row) (rw (e, t, le-leb _ _ h))

      module _ (h : row < k s + p s) where
        pub read_refused : (q : Refusal) → span_checked F s row start count ≡ Err q → Promise F s (read row start count) (refused q) s
        read_refused q e' =
            span_refused (λ q. Promise F s (read row start count) (refused q) s) row start count (allowed s start count) (sound F s row) q e'
            (λ a. refused_promise F s (read row start count) (BadSpan start) (rw (e, t, lt-leb _ _ h, a)))
            (λ a b. refused_promise F s (read row start count) (Unsound row (audited F s row)) (rw (e, t, lt-leb _ _ h, a, b)))

        pub read_copied : (u : Unit {0}) (xs : List A) → span_checked F s row start count ≡ Ok u → xs ≡ span F s row start count → Promise F s (read row start count) (copied xs) s
        read_copied u xs e' is =
            let z = span_passed row start count u e' in
            rw is (accepted (unrefused F s (read row start count) (rw (e, t, lt-leb _ _ h, z.0, z.1))) (did_read row start count))

    module _ (row start : ℕ) (xs : List A) where
      pub write_no_row : k s ≤ row → Promise F s (write row start xs) (refused (NoSuchRow row)) s
      write_no_row h = refused_promise F s (write row start xs) (NoSuchRow row) (rw (e, t, le-leb _ _ h))

      module _ (h : row < k s) where
        pub write_refused : (q : Refusal) → span_checked F s row start (length xs) ≡ Err q → Promise F s (write row start xs) (refused q) s
        write_refused q e' =
            span_refused (λ q. Promise F s (write row start xs) (refused q) s) row start (length xs) (allowed s start (length xs)) (sound F s row) q e'
            (λ a. refused_promise F s (write row start xs) (BadSpan start) (rw (e, t, lt-leb _ _ h, a)))
            (λ a b. refused_promise F s (write row start xs) (Unsound row (audited F s row)) (rw (e, t, lt-leb _ _ h, a, b)))

        module _ (a : allowed s start (length xs) ≡ true) where
          module _ (b : sound F s row ≡ true) where
            pub write_unsound_parity : (i r : ℕ) (v : Verdict) → r ≡ k s + i → v ≡ audited F s (k s + i) → lowest (p s) (λ i. not (sound F s (k s + i))) ≡ Some i
                → Promise F s (write row start xs) (refused (Unsound r v)) s
            write_unsound_parity i r v of is f =
                rw (of, is) (refused_promise F s (write row start xs) (Unsound (k s + i) (audited F s (k s + i))) (rw (e, t, lt-leb _ _ h, a, b, f)))

            pub write_written : lowest (p s) (λ i. not (sound F s (k s + i))) ≡ None → (held : Contents A) → held ≡ (with_cells s (written F s row start xs (cell s))).contents
                → Promise F s (write row start xs) done (with_contents held)
            write_written f held is =
                rw is (accepted (unrefused F s (write row start xs) (rw (e, t, lt-leb _ _ h, a, b, f))) (did_write row start xs))

    cross_refused : (q : Refusal) → stretch_checked F s (n s) (m s) ≡ Err q → Promise F s cross (refused q) s
    cross_refused q e' =
        stretch_refused (λ q. Promise F s cross (refused q) s) (n s) _ _ q e'
        (λ row c h. refused_promise F s cross (Unreadable row (n s + c)) (rw (e, t, h)))
        (λ h i c f. refused_promise F s cross (Misfit (k s + i) (n s + c)) (rw (e, t, h, f)))

    cross_fitting : (u : Unit {0}) → stretch_checked F s (n s) (m s) ≡ Ok u → Promise F s cross done s
    cross_fitting u e' = let none = stretch_passed (n s) _ _ u e' in accepted (unrefused F s cross (rw (e, t, none.0, none.1))) did_cross

    pub cross_checked : (r : Result (Unit {0}) Refusal) → r ≡ stretch_checked F s (n s) (m s) → Promise F s cross (answer_of r) s
    cross_checked (Ok u) is = cross_fitting u (sym is)
    cross_checked (Err q) is = cross_refused q (sym is)

    begin_still : (row : ℕ) → s.round ≡ Walking row → Promise F s begin (refused (StillWalking row)) s
    begin_still row w = refused_promise F s begin (StillWalking row) (rw (e, t, w))

    -- the number of rows as code counts them
    abbrev rows : ℕ
    rows = min (k s + p s) (2 ^ 64 - 1)

    -- a round that refused an action is as it was
    module _ (after : State A) (q : Refusal) where
      pub begin_refused : turn_answer s.round Begin rows ≡ Err q → after ≡ with_round (turned s.round Begin rows) s.sheet → Promise F s begin (refused q) after
      begin_refused a is = let z = not_begun s.round rows q a in rw (is, z.3, z.2) (begin_still z.0 z.1)

      pub step_refused : turn_answer s.round Step rows ≡ Err q → after ≡ with_round (turned s.round Step rows) s.sheet → Promise F s step (refused q) after
      step_refused a is = let z = not_stepped s.round rows q a in rw (is, z.2, z.1) (refused_promise F s step WrongPhase (rw (e, t, z.0)))

      pub totals_refused : turn_answer s.round Totals rows ≡ Err q → after ≡ with_round (turned s.round Totals rows) s.sheet → Promise F s totals (refused q) after
      totals_refused a is = let z = not_totalled s.round rows q a in rw (is, z.2, z.1) (refused_promise F s totals WrongPhase (rw (e, t, z.0)))

    pub begin_accepted : (after : State A) → is_ok (turn_answer s.round Begin rows) ≡ true → after ≡ with_round (turned s.round Begin rows) unread → Promise F s begin done after
    begin_accepted after a is = let z = began s.round rows a in rw (is, z.1) (accepted (unrefused F s begin (rw (e, t, z.0))) did_begin)

    pub totals_counted : (a b : ℕ) (after : State A) → is_ok (turn_answer s.round Totals rows) ≡ true → a ≡ counted (value (turn_answer s.round Totals rows)) (λ r. entry_sound (entry_of s r))
        → b ≡ counted (value (turn_answer s.round Totals rows)) (λ r. not (entry_sound (entry_of s r))) → after ≡ with_round (turned s.round Totals rows) s.sheet → Promise F s totals (counts a b) after
    totals_counted a b after ok at_a at_b is =
        let z = totalled s.round rows ok in
        let all = z.1 ∙ row_count e refl in
        rw (is, z.2, at_a, at_b, all) (accepted (unrefused F s totals (rw (e, t, z.0))) did_totals)

    pub step_judged : (x : ℕ) (round : Round) (sheet : Sheet) (v : Verdict) → turn_answer s.round Step rows ≡ Ok x → round ≡ turned s.round Step rows
        → v ≡ audited F s x → sheet.records ≡ set s.sheet.records x (entered v) → Promise F s step (judged v) (with_round round sheet)
    step_judged x round sheet v a is found records =
        let z = stepped s.round rows x a in
        let at : sheet ≡ record { records = set s.sheet.records x (entered v) } = ap (λ l. record { records = l }) records in
        rw (is, z.1, row_count e refl, at, found) (accepted (unrefused F s step (rw (e, t, z.0))) (did_step x z.0))

    pub record_no_row : (row : ℕ) → k s + p s ≤ row → Promise F s (record_of row) (refused (NoSuchRow row)) s
    record_no_row row h = refused_promise F s (record_of row) (NoSuchRow row) (rw (e, t, le-leb _ _ h))

    pub record_answered : (row : ℕ) (entry : Entry) → row < k s + p s → entry ≡ entry_of s row → Promise F s (record_of row) (entry_is entry) s
    record_answered row entry h is = rw is (accepted (unrefused F s (record_of row) (rw (e, t, lt-leb _ _ h))) (did_record row))

    pub first_answered : (found : Option ℕ) → found ≡ lowest (min (k s + p s) (2 ^ 64 - 1)) (λ r. entry_bad (entry_of s r)) → Promise F s first (lowest_is found) s
    first_answered found is = rw (is, row_count e refl) (accepted (unrefused F s first (rw (e, t))) did_first)

-- a shelf of the same sizes, put in the place of another, is other cells inside the sizes
pub exchanged : {A : Type 0} (s : State A) (contents : Contents A) → ExchangedAs s contents (on_contents s contents)
exchanged s contents rows places =
    ap (on_contents s) (same_contents contents (with_cells s contents.at).contents rows places
    (λ r t. by_cases (within s.contents.rows s.contents.places r t) (λ i. rw i) (λ o. rw o (hole_is _ (contents.beyond r t (ap₂ (λ a b. within a b r t) rows places ∙ o))))))
