-- What a caller in C gets for a call: five numbers, its kind, what it carries, and the layer of a refusal.
use Rattle.std.specs.Prelude.{ℕ, List, [], ◌∷◌, ◌++◌, length, take, drop, Some, None, Ok, Err, Result, slice_index}
use Rattle.rules.specs.Calls.{Answer, done, judged, copied, counts, entry_is, lowest_is, mended, refused as is_refused, own_number, returned, layer}
use Rattle.rules.specs.declared.Entry.{Entry}
use Rattle.rules.specs.declared.Entry.TheVariants.{Unread, Read}
use Rattle.rules.specs.declared.Layer.{Layer}
use Rattle.rules.specs.declared.Layer.TheVariants.{Shelf, Row, Tray, Call as Caller}
use Rattle.rules.specs.declared.Refusal.{Refusal}
use Rattle.rules.specs.declared.Refusal.TheVariants.{DoesNotFit, NotTakenIn, TakenInAlready, NoSuchRow, BadSpan, Unsound, Unreadable, Misfit, TooManyUnsound, WrongPhase, StillWalking}
use Rattle.rules.specs.declared.Verdict.{Verdict}
use Rattle.rules.specs.declared.Verdict.TheVariants.{Sound, Hole, Card}
use Rattle.ffi.specs.declared.answers.Given.{Given}
use Rattle.ffi.specs.declared.answers.Given.TheVariants.{Done, Found, Counts, Unread as NotRead, Lowest, Mended}

-- a verdict's kind, and its place or component
abbrev pub verdict_kind : Verdict → ℕ
verdict_kind Sound = 0
verdict_kind (Hole place) = 1
verdict_kind (Card component) = 2

abbrev pub verdict_at : Verdict → ℕ
verdict_at Sound = 0
verdict_at (Hole place) = place
verdict_at (Card component) = component

abbrev pub layer_number : Layer → ℕ
layer_number Caller = 1
layer_number Shelf = 2
layer_number Row = 3
layer_number Tray = 4

-- the kind of the verdict that a refusal carries
abbrev pub carried_kind : Refusal → ℕ
carried_kind DoesNotFit = 0
carried_kind NotTakenIn = 0
carried_kind TakenInAlready = 0
carried_kind (NoSuchRow row) = 0
carried_kind (BadSpan start) = 0
carried_kind (Unsound row verdict) = verdict_kind verdict
carried_kind (Unreadable row place) = 0
carried_kind (Misfit row place) = 0
carried_kind (TooManyUnsound count) = 0
carried_kind WrongPhase = 0
carried_kind (StillWalking row) = 0

-- what a refusal carries: the numbers that it returns behind its own, and a verdict's kind
abbrev pub carried_numbers : Refusal → List ℕ
carried_numbers r = slice_index (returned r) 1 ∷ slice_index (returned r) 2 ∷ carried_kind r ∷ []

-- a refusal's own number, what it carries, and its layer
abbrev pub refusal_numbers : Refusal → List ℕ
refusal_numbers r = own_number r ∷ slice_index (returned r) 1 ∷ slice_index (returned r) 2 ∷ carried_kind r ∷ layer_number (layer r) ∷ []

abbrev pub verdict_numbers : Verdict → List ℕ
verdict_numbers verdict = 100 ∷ verdict_kind verdict ∷ verdict_at verdict ∷ 0 ∷ 0 ∷ []

abbrev pub given_numbers : Given → List ℕ
given_numbers Done = 0 ∷ 0 ∷ 0 ∷ 0 ∷ 0 ∷ []
given_numbers (Found verdict) = verdict_numbers verdict
given_numbers (Counts sound others) = 101 ∷ sound ∷ others ∷ 0 ∷ 0 ∷ []
given_numbers NotRead = 102 ∷ 0 ∷ 0 ∷ 0 ∷ 0 ∷ []
given_numbers (Lowest (Some row)) = 103 ∷ row ∷ 0 ∷ 0 ∷ 0 ∷ []
given_numbers (Lowest None) = 104 ∷ 0 ∷ 0 ∷ 0 ∷ 0 ∷ []
given_numbers (Mended count) = 105 ∷ count ∷ 0 ∷ 0 ∷ 0 ∷ []

abbrev pub result_numbers : Result Given Refusal → List ℕ
result_numbers (Ok given) = given_numbers given
result_numbers (Err refusal) = refusal_numbers refusal

-- the five numbers of an answer of the rules
abbrev pub answer_numbers : {X : Type 0} → Answer X → List ℕ
answer_numbers done = 0 ∷ 0 ∷ 0 ∷ 0 ∷ 0 ∷ []
answer_numbers (judged verdict) = verdict_numbers verdict
answer_numbers (copied xs) = 0 ∷ 0 ∷ 0 ∷ 0 ∷ 0 ∷ []
answer_numbers (counts sound others) = 101 ∷ sound ∷ others ∷ 0 ∷ 0 ∷ []
answer_numbers (entry_is Unread) = 102 ∷ 0 ∷ 0 ∷ 0 ∷ 0 ∷ []
answer_numbers (entry_is (Read verdict)) = verdict_numbers verdict
answer_numbers (lowest_is (Some row)) = 103 ∷ row ∷ 0 ∷ 0 ∷ 0 ∷ []
answer_numbers (lowest_is None) = 104 ∷ 0 ∷ 0 ∷ 0 ∷ 0 ∷ []
answer_numbers (mended count) = 105 ∷ count ∷ 0 ∷ 0 ∷ 0 ∷ []
answer_numbers (is_refused refusal) = refusal_numbers refusal

-- what an entry of the sheet gives
abbrev pub entry_given : Entry → Given
entry_given Unread = NotRead
entry_given (Read verdict) = Found verdict

-- numbers written over the first of a list, as far as it goes
abbrev pub written_over : List ℕ → List ℕ → List ℕ
written_over numbers room = take (length room) numbers ++ drop (length numbers) room

-- numbers written into a list from an index on, as far as it goes
abbrev pub written_at : ℕ → List ℕ → List ℕ → List ℕ
written_at at numbers room = take at room ++ written_over numbers (drop at room)
