-- Every call keeps what a run keeps, so the tray is faithful to its twin.
use Rattle.std.proofs.Common.{◌≡◌, ℕ, ◌+◌, ◌<◌, true, not, ◌↔◌, List, refl, ap, inl, inr, arith}
use mathlib.Core.Bool.{false≢true}
use Rattle.std.proofs.lemmas.Bool.{true_from_ne_false, both_ways, not-true, not-false, cases_lt}
use Rattle.algebra.specs.Algebra.{Field}
use Rattle.rules.specs.States.{State, k, p, sound, audited}
use Rattle.rules.specs.Calls.{is_sound}
use Rattle.rules.specs.Calls.{Call, write, audit, Answer, judged}
use Rattle.rules.specs.Promises.{Line, unfit, early, again, no_row, no_write, long_write, bad_write, bad_parity, Promise, accepted, rejected}
use Rattle.rules.specs.Promises.{Accepts, did_fit, did_intake, did_write, did_read, did_audit, did_cross, did_begin, did_step, did_totals, did_record, did_first, did_mend}
use Rattle.rules.specs.Twins.{overwritten, EqualRow, Takes, Follows, takes, stands, Run, starts, calls, damaged, Faithful}
use Rattle.rules.specs.declared.Refusal.{Refusal}
use Rattle.rules.specs.declared.Verdict.{Verdict}
use Rattle.rules.specs.declared.Verdict.TheVariants.{Sound, Hole, Card}
use Rattle.rules.proofs.Found.{nothing, lowest_none, lowest_some}
use Rattle.rules.proofs.Intake.{intake_kept}
use Rattle.rules.proofs.Kept.{Kept, sound_equal, unsound_struck}
use Rattle.rules.proofs.Mend.{mend_equal, mend_kept}
use Rattle.rules.proofs.Writing.{write_kept}

pub sound_is : (v : Verdict) → is_sound v ≡ true → v ≡ Sound
sound_is Sound e = refl
sound_is (Hole place) e = absurd (false≢true e)
sound_is (Card c) e = absurd (false≢true e)

module _ {X : Type 0} (F : Field X) where
  module _ (blocks : ℕ → ℕ → X) (s : State X) (kept : Kept F blocks s) where
    module _ {row start : ℕ} {xs : List X} where
      -- A write is refused exactly when the twin does not take it.
      pub none_if_taken : Takes F blocks s row start xs → (q : Refusal) → Line F s (write row start xs) q → ⊥
      none_if_taken t q (unfit _ e) = both_ways _ e kept.fitting
      none_if_taken t q (early _ _ e) = both_ways _ e kept.taken
      none_if_taken t q (no_write _ _ _ more) = omega (arith, t.of_data)
      none_if_taken t q (long_write _ _ _ e) = both_ways _ e t.spans
      none_if_taken t q (bad_write _ _ _ e) = t.row_clear ((unsound_struck F blocks s kept row (omega (arith, t.of_data))).0 e)
      none_if_taken t q (bad_parity _ _ _ i _ e) =
          let found = lowest_some (p s) (λ h. not (sound F s (k s + h))) i e in
          t.parity_clear i found.0 ((unsound_struck F blocks s kept (k s + i) (omega (arith, found.0))).0 (not-true _ found.1))

      pub taken_if_none : ((q : Refusal) → Line F s (write row start xs) q → ⊥) → Takes F blocks s row start xs
      taken_if_none none =
          let of_data : row < k s = elim (cases_lt row (k s)) [ inl l ↦ l | inr more ↦ absurd (none _ (no_write row start xs more)) ] in
          let is : sound F s row ≡ true = true_from_ne_false _ (λ e. none _ (bad_write row start xs e)) in
          record {
            of_data = of_data;
            spans = true_from_ne_false _ (λ e. none _ (long_write row start xs e));
            row_clear = λ struck. both_ways _ ((unsound_struck F blocks s kept row (omega arith)).1 struck) is;
            parity_clear = λ i l struck.
                both_ways _ ((unsound_struck F blocks s kept (k s + i) (omega arith)).1 struck)
                (not-false _ (lowest_none (p s) (λ h. not (sound F s (k s + h))) (nothing _ λ j e. none _ (bad_parity row start xs j is e)) i l));
          }

      taken_kept : {answer : Answer X} {s' : State X} → Takes F blocks s row start xs → Promise F s (write row start xs) answer s'
          → Kept F (overwritten blocks row start xs) s'
      taken_kept t (rejected r line first) = absurd (none_if_taken t r line)
      taken_kept t (accepted none (did_write _ _ _)) = write_kept F blocks s kept row start xs t

    accepted_kept : {c : Call X} {answer : Answer X} {s' : State X} → ((q : Refusal) → Line F s c q → ⊥)
        → ((row start : ℕ) (xs : List X) → c ≡ write row start xs → Takes F blocks s row start xs → ⊥) → Accepts F s c answer s' → Kept F blocks s'
    accepted_kept none free did_fit = kept
    accepted_kept none free did_intake = absurd (none _ (again kept.taken))
    accepted_kept none free (did_write row start xs) = absurd (free row start xs refl (taken_if_none none))
    accepted_kept none free (did_read _ _ _) = kept
    accepted_kept none free (did_audit _) = kept
    accepted_kept none free did_cross = kept
    accepted_kept none free did_begin = record { fitting = kept.fitting; taken = kept.taken; each_row = kept.each_row }
    accepted_kept none free (did_step _ _) = record { fitting = kept.fitting; taken = kept.taken; each_row = kept.each_row }
    accepted_kept none free did_totals = kept
    accepted_kept none free (did_record _) = kept
    accepted_kept none free did_first = kept
    accepted_kept none free (did_mend other worked) = mend_kept F s blocks kept _ _ (accepted none (did_mend other worked))

    call_kept : {c : Call X} {answer : Answer X} {s' : State X} {blocks' : ℕ → ℕ → X} → Promise F s c answer s' → Follows F blocks s c blocks' → Kept F blocks' s'
    call_kept promise (takes row start xs e t) = taken_kept t (rw e at promise)
    call_kept (rejected r line first) (stands free) = kept
    call_kept (accepted none accepts) (stands free) = accepted_kept none free accepts

    none_in_audit : (row : ℕ) → row < k s + p s → (q : Refusal) → Line F s (audit row) q → ⊥
    none_in_audit row l q (unfit _ e) = both_ways _ e kept.fitting
    none_in_audit row l q (early _ _ e) = both_ways _ e kept.taken
    none_in_audit row l q (no_row _ more) = omega arith

    audit_equal : (row : ℕ) → row < k s + p s → (answer : Answer X) (s' : State X) → Promise F s (audit row) answer s'
        → (answer ≡ judged Sound) ↔ EqualRow F blocks s row
    audit_equal row l _ _ (rejected r line first) = absurd (none_in_audit row l r line)
    audit_equal row l _ _ (accepted none (did_audit _)) = (
      λ e. let is : audited F s row ≡ Sound = cc in (sound_equal F blocks s kept row l).0 (ap is_sound is),
      λ equal. ap judged (sound_is _ ((sound_equal F blocks s kept row l).1 equal)),
    )

  pub run_kept : {blocks : ℕ → ℕ → X} {s : State X} → Run F blocks s → Kept F blocks s
  run_kept (starts sizes contents s promise) = intake_kept F sizes contents s promise
  run_kept (calls run _ _ _ promise _ follows) = call_kept _ _ (run_kept run) promise follows
  run_kept (damaged run cells damage) = record { fitting = (run_kept run).fitting; taken = (run_kept run).taken; each_row = damage }

  pub faithful : Faithful F
  faithful s = (
    λ row answer s' promise blocks run l. audit_equal blocks s (run_kept run) row l answer s' promise,
    λ answer s' promise blocks run. mend_equal F s blocks (run_kept run) answer s' promise,
  )
