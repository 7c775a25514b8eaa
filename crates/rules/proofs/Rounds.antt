-- How a round goes from row to row.
use Rattle.std.proofs.Common.{◌≡◌, ℕ, ◌+◌, ◌<◌, ◌≤◌, true, cond, not, ltb, length, get_or, set, refl, ap, ◌∙◌, subst, ap₂, inl, inr, arith}
use Rattle.std.proofs.lemmas.Bool.{true_from_ne_false, both_ways, cases_eq, lt-ltb, le-ltb}
use Rattle.std.proofs.lemmas.List.{get_or-set_same, get_or-set_other, length-set}
use Rattle.algebra.specs.Algebra.{Field}
use Rattle.rules.specs.Calls.{begin, step, totals, Answer, done, counts}
use Rattle.rules.specs.Promises.{Promise, unfit, early, not_walking, not_over, rejected, accepted, did_begin, did_step, did_totals}
use Rattle.rules.specs.Rounds.{Walked, begun, stepped, Finished, RoundExact}
use Rattle.rules.specs.Search.{counted}
use Rattle.rules.specs.States.{State, unread, k, p, fits, audited, sound, unsound_count}
use Rattle.rules.specs.Updates.{entry_sound, entry_of}
use Rattle.rules.specs.declared.Entry.TheVariants.{Unread, Read}
use Rattle.rules.specs.declared.Record.{Record}
use Rattle.rules.specs.declared.Round.{Round}
use Rattle.rules.specs.declared.Round.TheVariants.{Walking, Over}
use Rattle.rules.specs.declared.Sheet.{Sheet}
use Rattle.rules.proofs.Counted.{counted_same}
use Rattle.rules.proofs.Rows.{fitting}

module _ {X : Type 0} (F : Field X) (s : State X) where
  -- the same tray with another round and another sheet
  abbrev standing : Round → Sheet → State X
  standing round sheet = record { sizes = s.sizes; contents = s.contents; taken_in = s.taken_in; round = round; sheet = sheet }

  abbrev round_at : ℕ → Round
  round_at i = cond (ltb i (k s + p s)) (Walking i) Over

  abbrev verdict_of : ℕ → Record
  verdict_of row = record { entry = Read (audited F s row) }

  -- where a round is after i steps
  record Stage (i : ℕ) (t : State X) : Type 0 where
    sheet : Sheet
    stands : t ≡ standing (round_at i) sheet
    room : length sheet.records ≡ 68
    entries : (row : ℕ) → row < i → get_or sheet.records row (record { entry = Unread }) ≡ verdict_of row

  record Begun : Type 0 where
    fit : fits F s ≡ true
    taken : s.taken_in ≡ true

  begun_fits : {i : ℕ} {t : State X} → Walked F s i t → Begun
  begun_fits (begun t (accepted none did_begin)) = record { fit = true_from_ne_false _ (λ e. none _ (unfit begin e)); taken = true_from_ne_false _ (λ e. none _ (early begin refl e)) }
  begun_fits (stepped i t walked _ _ _) = begun_fits walked

  module _ (b : Begun) where
    few_rows : (1 ≤ k s + p s) × (k s + p s ≤ 68)
    few_rows = let f = fitting F s b.fit in (omega arith, omega arith)

    first_stage : {t : State X} → Promise F s begin done t → Stage 0 t
    first_stage (accepted none did_begin) = record {
      sheet = unread;
      stands = ap (λ r. standing r unread) (rw (lt-ltb 0 (k s + p s) few_rows.0));
      room = refl;
      entries = λ row l. absurd (omega arith);
    }

    module _ (i : ℕ) (l : i < k s + p s) (sheet : Sheet) (room : length sheet.records ≡ 68)
        (entries : (row : ℕ) → row < i → get_or sheet.records row (record { entry = Unread }) ≡ verdict_of row) where
      entered : ℕ → Sheet
      entered row = record { records = set sheet.records row (verdict_of row) }

      entered_all : (row : ℕ) → row < i + 1 → get_or (entered i).records row (record { entry = Unread }) ≡ verdict_of row
      unfolding entered
      entered_all row h =
          elim (cases_eq row i) [
            | inl e ↦ rw e (get_or-set_same sheet.records i (verdict_of i) (record { entry = Unread }) (omega (arith, few_rows.1)))
            | inr ne ↦ get_or-set_other sheet.records i row (verdict_of i) (record { entry = Unread }) ne ∙ entries row (omega arith)
          ]

      next_stage : {answer : Answer X} {t : State X} → Promise F (standing (Walking i) sheet) step answer t → Stage (i + 1) t
      unfolding entered
      next_stage (rejected r (unfit _ e) first) = absurd (both_ways _ e b.fit)
      next_stage (rejected r (early _ _ e) first) = absurd (both_ways _ e b.taken)
      next_stage (rejected r (not_walking e) first) = absurd (both_ways _ e refl)
      next_stage (accepted none (did_step row e)) =
          let same : row ≡ i = cc in record {
            sheet = entered i;
            stands = ap (λ r. standing (round_at (r + 1)) (entered r)) same;
            room = length-set sheet.records i (verdict_of i) ∙ room;
            entries = entered_all;
          }

    stage : {i : ℕ} {t : State X} → Walked F s i t → i ≤ k s + p s → Stage i t
    stage (begun t promise) l = first_stage promise
    stage (stepped i t walked answer t' promise) l =
        let before = stage walked (omega arith) in
        let here : t ≡ standing (Walking i) before.sheet = before.stands ∙ rw (lt-ltb i (k s + p s) (omega arith)) in
        next_stage i (omega arith) before.sheet before.room before.entries (subst (λ u. Promise F u step answer t') here promise)

    finished : (t : State X) → Stage (k s + p s) t → Finished F s t
    finished t last = record {
      over = ap (λ u. u.round) here;
      entries = read;
      totalled = λ answer t' promise. totalled (subst (λ u. Promise F u totals answer t') here promise);
    }
      where
        here : t ≡ standing Over last.sheet
        here = last.stands ∙ rw (le-ltb (k s + p s) (k s + p s) (omega arith))

        read : (row : ℕ) → row < k s + p s → entry_of t row ≡ Read (audited F s row)
        read row l = ap (λ u. entry_of u row) here ∙ ap (λ r. r.entry) (last.entries row l)

        totalled : {answer : Answer X} {t' : State X} → Promise F (standing Over last.sheet) totals answer t'
            → answer ≡ counts (counted (k s + p s) (sound F s)) (unsound_count F s)
        totalled (rejected r (unfit _ e) first) = absurd (both_ways _ e b.fit)
        totalled (rejected r (early _ _ e) first) = absurd (both_ways _ e b.taken)
        totalled (rejected r (not_over e) first) = absurd (both_ways _ e refl)
        totalled (accepted none did_totals) =
            let same : (row : ℕ) → row < k s + p s → entry_sound (entry_of (standing Over last.sheet) row) ≡ sound F s row =
            λ row l. ap (λ r. entry_sound r.entry) (last.entries row l) in
            ap₂ counts (counted_same (k s + p s) _ _ same) (counted_same (k s + p s) _ _ (λ row l. ap not (same row l)))

pub round_exact : {X : Type 0} (F : Field X) → RoundExact F
round_exact F s i t walked = (
  λ l. ap (λ u. u.round) (stage F s (begun_fits F s walked) walked (omega arith)).stands ∙ rw (lt-ltb i (k s + p s) l),
  λ e. finished F s (begun_fits F s walked) t (subst (λ c. Stage F s c t) e (stage F s (begun_fits F s walked) walked (omega arith))),
)
