-- Every state and call has an answer, and only one.
use Rattle.std.proofs.Common.{◌≡◌, ◌+◌, cond, not, ◌&&◌, ltb, set, Some, None, Option, refl, ap}
use mathlib.Core.Path.{fun_ext}
use Rattle.std.proofs.lemmas.Bool.{true_from_ne_false}
use Rattle.algebra.specs.Algebra.{Field}
use Rattle.shelves.specs.Contents.{symbol}
use Rattle.rules.specs.States.{State, k, p, n, m, cell, with_cells, audited, sound}
use Rattle.rules.specs.Calls.{Call, fit, intake, cross, begin, step, totals, first, mend, audit, record_of, read, write, Answer, judged, refused}
use Rattle.rules.specs.Updates.{walking, next_round, mended_cells}
use Rattle.rules.specs.Promises.{Line, unfit}
use Rattle.rules.specs.Promises.{not_walking, Promise, rejected, accepted, Answered}
use Rattle.rules.specs.Promises.{Accepts, did_fit, did_intake, did_write, did_read, did_audit, did_cross, did_begin, did_step, did_totals, did_record, did_first, did_mend}
use Rattle.rules.specs.declared.Entry.TheVariants.{Read}
use Rattle.rules.specs.declared.Refusal.{Refusal}
use Rattle.rules.specs.declared.Round.{Round}
use Rattle.rules.specs.declared.Round.TheVariants.{Resting, Walking, Over}
use Rattle.rules.proofs.Mend.{few_of}
use Rattle.rules.proofs.Tables.{table_same}
use Rattle.rules.proofs.Working.{worked_exist, worked_unique}
use Rattle.rules.proofs.Refusals.{refusal, unrefused, refused_line, refused_promise, refused_once}

module _ {X : Type 0} (F : Field X) (s : State X) where
  -- A call that no line refuses is accepted,
  accepts : (c : Call X) → ((q : Refusal) → Line F s c q → ⊥) → (answer : Answer X) × (after : State X) × Accepts F s c answer after
  accepts fit none = (_, _, did_fit)
  accepts intake none = (_, _, did_intake)
  accepts cross none = (_, _, did_cross)
  accepts begin none = (_, _, did_begin)
  accepts step none = go s.round refl
    where
      go : (r : Round) → s.round ≡ r → (answer : Answer X) × (after : State X) × Accepts F s step answer after
      go Resting e = absurd (none _ (not_walking (ap walking e)))
      go (Walking row) e = (_, _, did_step row e)
      go Over e = absurd (none _ (not_walking (ap walking e)))
  accepts totals none = (_, _, did_totals)
  accepts first none = (_, _, did_first)
  accepts mend none = (_, _, did_mend _ (worked_exist F s (true_from_ne_false _ (λ e. none _ (unfit mend e))) (few_of F s none)))
  accepts (audit row) none = (_, _, did_audit row)
  accepts (record_of row) none = (_, _, did_record row)
  accepts (read row start count) none = (_, _, did_read row start count)
  accepts (write row start xs) none = (_, _, did_write row start xs)

  -- in one way.
  accepts_once : {c : Call X} {a b : Answer X} {t u : State X} → ((q : Refusal) → Line F s c q → ⊥) → Accepts F s c a t → Accepts F s c b u → (a ≡ b) × (t ≡ u)
  accepts_once none did_fit did_fit = (refl, refl)
  accepts_once none did_intake did_intake = (refl, refl)
  accepts_once none (did_write _ _ _) (did_write _ _ _) = (refl, refl)
  accepts_once none (did_read _ _ _) (did_read _ _ _) = (refl, refl)
  accepts_once none (did_audit _) (did_audit _) = (refl, refl)
  accepts_once none did_cross did_cross = (refl, refl)
  accepts_once none did_begin did_begin = (refl, refl)
  accepts_once none (did_step row e) (did_step row' e') =
      let same : row ≡ row' = cc in (
        ap (λ r. judged (audited F s r)) same,
        ap (λ r. record {
          sizes = s.sizes;
          contents = s.contents;
          taken_in = s.taken_in;
          round = next_round s r;
          sheet = record { records = set s.sheet.records r (record { entry = Read (audited F s r) }) };
        }) same,
      )
  accepts_once none did_totals did_totals = (refl, refl)
  accepts_once none (did_record _) (did_record _) = (refl, refl)
  accepts_once none did_first did_first = (refl, refl)
  accepts_once none (did_mend blocks v) (did_mend blocks' w) =
      let same = table_same F (k s) (n s) blocks blocks' (worked_unique F s (true_from_ne_false _ (λ e. none _ (unfit mend e))) (few_of F s none) blocks blocks' v w) in
      let cells : mended_cells F s blocks ≡ mended_cells F s blocks' = fun_ext λ row. fun_ext λ place. ap (λ x. cond (ltb row (k s + p s) && ltb place (n s + m s) && not (sound F s row)) (symbol x) (cell s row place)) (same row place) in
      (refl, ap (λ c. with_cells s c) cells)

  abbrev Once : Call X → Type 0
  Once c = (answer : Answer X) × (s' : State X) × Promise F s c answer s' × ((other : Answer X) (t : State X) → Promise F s c other t → (other ≡ answer) × (t ≡ s'))

  once : (c : Call X) → Once c
  once c = go (refusal F s c) refl
    where
      go : (o : Option Refusal) → refusal F s c ≡ o → Once c
      go None e = let a = accepts c none in (a.0, a.1, accepted none a.2, only a.2)
        where
          none : (q : Refusal) → Line F s c q → ⊥
          none = unrefused F s c e

          only : {answer : Answer X} {s' : State X} → Accepts F s c answer s' → (other : Answer X) (t : State X) → Promise F s c other t → (other ≡ answer) × (t ≡ s')
          only a other t (rejected r line none_before) = absurd (none r line)
          only a other t (accepted _ b) = accepts_once none b a
      go (Some r) e = (refused r, s, refused_promise F s c r e, only)
        where
          only : (other : Answer X) (t : State X) → Promise F s c other t → (other ≡ refused r) × (t ≡ s)
          only other t (rejected q line none) = (ap refused (refused_once F s c r e q line none), refl)
          only other t (accepted none _) = absurd (none r (refused_line F s c r e))

pub answered : {X : Type 0} (F : Field X) → Answered F
answered F s c = once F s c
