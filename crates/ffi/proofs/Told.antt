-- A call's result and the answer that it tells of have the same five numbers.
use Rattle.std.specs.Prelude.{cond}
use Rattle.std.proofs.Common.{◌≡◌, List, true, false, refl, Ok, Err, Some, None}
use Rattle.std.specs.Prelude.{Result}
use Rattle.rules.specs.Calls.{copied, done, entry_is, judged}
use Rattle.rules.specs.declared.Entry.TheVariants.{Read as IsRead}
use Rattle.rules.specs.declared.Refusal.{Refusal}
use Rattle.ffi.specs.Answers.{answer_numbers, result_numbers, given_numbers}
use Rattle.ffi.specs.Script.{told, is_read, is_record}
use Rattle.ffi.specs.declared.answers.Given.{Given}
use Rattle.ffi.specs.declared.answers.Given.TheVariants.{Done, Found, Counts, Unread, Lowest, Mended}
use Rattle.ffi.specs.declared.script.Call.{Call}

pub told_numbers : {A : Type 0} (call : Call) (xs : List A) (r : Result Given Refusal) → result_numbers r ≡ answer_numbers (told call xs r)
told_numbers call xs (Err refusal) = refl
told_numbers call xs (Ok Done) = elim (is_read call) as (λ b. given_numbers Done ≡ answer_numbers (cond b (copied xs) done)) [ true ↦ refl | false ↦ refl ]
told_numbers {A} call xs (Ok (Found verdict)) =
    elim (is_record call) as (λ b. given_numbers (Found verdict) ≡ answer_numbers {X = A} (cond b (entry_is (IsRead verdict)) (judged verdict))) [ true ↦ refl | false ↦ refl ]
told_numbers call xs (Ok (Counts sound others)) = refl
told_numbers call xs (Ok Unread) = refl
told_numbers call xs (Ok (Lowest (Some row))) = refl
told_numbers call xs (Ok (Lowest None)) = refl
told_numbers call xs (Ok (Mended count)) = refl
