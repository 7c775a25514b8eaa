-- The steps of a script: which call of the rules a step makes, with which symbols, and what its result answers.
use Rattle.std.specs.Prelude.{◌≡◌, ℕ, zero, suc, ◌+◌, min, Bool, true, false, cond, List, [], ◌∷◌, length, map, Ok, Err, Result, ◌==◌, slice_index}
use Rattle.algebra.specs.Algebra.{Field}
use Rattle.rows.specs.Weights.{element_of}
use Rattle.rules.specs.Calls.{fit, intake, cross, begin, step, totals, first, mend, audit, record_of, read, write, Call as RulesCall}
use Rattle.rules.specs.Calls.{Answer, done, judged, copied, counts, entry_is, lowest_is, mended, refused, buffer_after}
use Rattle.rules.specs.Promises.{Promise}
use Rattle.rules.specs.States.{State}
use Rattle.rules.specs.declared.Entry.TheVariants.{Unread, Read as IsRead}
use Rattle.rules.specs.declared.Refusal.{Refusal}
use Rattle.ffi.specs.Answers.{answer_numbers, written_over}
use Rattle.ffi.specs.declared.answers.Given.{Given}
use Rattle.ffi.specs.declared.answers.Given.TheVariants.{Done, Found, Counts, Unread as NotRead, Lowest, Mended}
use Rattle.ffi.specs.declared.script.Call.{Call}
use Rattle.ffi.specs.declared.script.Call.TheVariants.{Fit, Intake, Audit, Read, Write, Cross, Begin, Step as OneStep, Totals, Record, First, Mend}
use Rattle.ffi.specs.declared.script.Deed.{Deed}
use Rattle.ffi.specs.declared.script.Deed.TheVariants.{Call as Calls, Damage}
use Rattle.ffi.specs.declared.script.Step.{Step}

-- the deed of a number: the calls in the order of the rules, and damage
abbrev pub deed_of : ℕ → Deed
deed_of number =
    cond (number == 0) (Calls Fit) (
    cond (number == 1) (Calls Intake) (
    cond (number == 2) (Calls Audit) (
    cond (number == 3) (Calls Read) (
    cond (number == 4) (Calls Write) (
    cond (number == 5) (Calls Cross) (
    cond (number == 6) (Calls Begin) (
    cond (number == 7) (Calls OneStep) (
    cond (number == 8) (Calls Totals) (
    cond (number == 9) (Calls Record) (
    cond (number == 10) (Calls First) (
    cond (number == 12) Damage (Calls Mend))))))))))))

-- the step of four words
abbrev pub step_of : List ℕ → Step
step_of words = record {
  deed = deed_of (slice_index words 0);
  first = slice_index words 1;
  second = slice_index words 2;
  count = min (slice_index words 3) 4200;
}

-- the elements of so many numbers from a start on, and zeros beyond the numbers
abbrev pub elements : {A : Type 0} → Field A → List ℕ → ℕ → ℕ → List A
elements F numbers start zero = []
elements F numbers start (suc count) = element_of F (slice_index numbers start) ∷ elements F numbers (start + 1) count

-- the call of the rules that a step makes, with these symbols in its buffer
abbrev pub call_of : {A : Type 0} → Call → Step → List A → RulesCall A
call_of Fit s xs = fit
call_of Intake s xs = intake
call_of Audit s xs = audit s.first
call_of Read s xs = read s.first s.second (length xs)
call_of Write s xs = write s.first s.second xs
call_of Cross s xs = cross
call_of Begin s xs = begin
call_of OneStep s xs = step
call_of Totals s xs = totals
call_of Record s xs = record_of s.first
call_of First s xs = first
call_of Mend s xs = mend

abbrev pub is_read : Call → Bool
is_read Fit = false
is_read Intake = false
is_read Audit = false
is_read Read = true
is_read Write = false
is_read Cross = false
is_read Begin = false
is_read OneStep = false
is_read Totals = false
is_read Record = false
is_read First = false
is_read Mend = false

abbrev pub is_record : Call → Bool
is_record Fit = false
is_record Intake = false
is_record Audit = false
is_record Read = false
is_record Write = false
is_record Cross = false
is_record Begin = false
is_record OneStep = false
is_record Totals = false
is_record Record = true
is_record First = false
is_record Mend = false

-- what a call that gives this answers, with these symbols in its buffer afterwards
abbrev pub told_given : {A : Type 0} → Call → List A → Given → Answer A
told_given call xs Done = cond (is_read call) (copied xs) done
told_given call xs (Found verdict) = cond (is_record call) (entry_is (IsRead verdict)) (judged verdict)
told_given call xs (Counts sound others) = counts sound others
told_given call xs NotRead = entry_is Unread
told_given call xs (Lowest row) = lowest_is row
told_given call xs (Mended count) = mended count

abbrev pub told : {A : Type 0} → Call → List A → Result Given Refusal → Answer A
told call xs (Ok given) = told_given call xs given
told call xs (Err refusal) = refused refusal

-- A step's call on a tray, its symbols the elements of the numbers from a start on: what it answers, and what it makes of the tray and the numbers.
-- The numbers of its symbols stand where they were taken from.
pub record Called {A : Type 0} (F : Field A) (s : State A) (call : Call) (of : Step) (start count : ℕ) (numbers : List ℕ) (answered : List ℕ) (after : List ℕ) (s' : State A) : Type 0 where
  pub answer : Answer A
  pub promised : Promise F s (call_of call of (elements F numbers start count)) answer s'
  pub told_as : answered ≡ answer_numbers answer
  pub left : after ≡ written_over (map F.number (buffer_after (elements F numbers start count) answer)) numbers
