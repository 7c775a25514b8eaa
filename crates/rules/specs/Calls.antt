-- The calls, their answers, and the refusals by number, layer and order.
use Rattle.std.specs.Prelude.{ℕ, Bool, true, false, cond, List, [], ◌∷◌, Some, None, Option, ◌==◌, slice_index}
use Rattle.rules.specs.declared.Entry.{Entry}
use Rattle.rules.specs.declared.Layer.{Layer}
use Rattle.rules.specs.declared.Layer.TheVariants.{Shelf, Row, Tray, Call as Caller}
use Rattle.rules.specs.declared.Refusal.{Refusal}
use Rattle.rules.specs.declared.Refusal.TheVariants.{DoesNotFit, NotTakenIn, TakenInAlready, NoSuchRow, BadSpan, Unsound, Unreadable, Misfit, TooManyUnsound, WrongPhase, StillWalking}
use Rattle.rules.specs.declared.Verdict.{Verdict}
use Rattle.rules.specs.declared.Verdict.TheVariants.{Sound, Hole, Card}

-- read takes a row, a start and a count, which is the buffer's length; write a data row, a start and symbols
pub data Call (X : Type 0) : Type 0 where
  fit intake cross begin step totals first mend : Call X
  audit record_of : ℕ → Call X
  read : ℕ → ℕ → ℕ → Call X
  write : ℕ → ℕ → List X → Call X

-- done is the answer 0 of an accepted call with nothing else to return
pub data Answer (X : Type 0) : Type 0 where
  done : Answer X
  judged : Verdict → Answer X
  copied : List X → Answer X
  counts : ℕ → ℕ → Answer X
  entry_is : Entry → Answer X
  lowest_is : Option ℕ → Answer X
  mended : ℕ → Answer X
  refused : Refusal → Answer X

-- what the caller's buffer holds after a call: what a read copied, and in all other cases what it held
abbrev pub buffer_after : {X : Type 0} → List X → Answer X → List X
buffer_after old done = old
buffer_after old (judged verdict) = old
buffer_after old (copied xs) = xs
buffer_after old (counts sound others) = old
buffer_after old (entry_is entry) = old
buffer_after old (lowest_is row) = old
buffer_after old (mended count) = old
buffer_after old (refused refusal) = old

abbrev pub is_sound : Verdict → Bool
is_sound Sound = true
is_sound (Hole place) = false
is_sound (Card c) = false

-- the place or the component that a verdict names; the layer says which of the two it is
abbrev pub verdict_numbers : Verdict → List ℕ
verdict_numbers Sound = []
verdict_numbers (Hole place) = place ∷ []
verdict_numbers (Card c) = c ∷ []

-- the numbers that a refusal returns: its own, and what it carries
abbrev pub returned : Refusal → List ℕ
returned DoesNotFit = 1 ∷ []
returned NotTakenIn = 2 ∷ []
returned TakenInAlready = 3 ∷ []
returned (NoSuchRow row) = 4 ∷ row ∷ []
returned (BadSpan start) = 5 ∷ start ∷ []
returned (Unsound row verdict) = 6 ∷ row ∷ verdict_numbers verdict
returned (Unreadable row place) = 7 ∷ row ∷ place ∷ []
returned (Misfit row place) = 8 ∷ row ∷ place ∷ []
returned (TooManyUnsound count) = 9 ∷ count ∷ []
returned WrongPhase = 10 ∷ []
returned (StillWalking row) = 11 ∷ row ∷ []

-- a refusal's own number
abbrev pub own_number : Refusal → ℕ
own_number r = slice_index (returned r) 0

-- the number with which a call returns that has nothing else to return: 0 where it is accepted, its refusal's number where it is not
abbrev pub return_number : {X : Type 0} → Answer X → Option ℕ
return_number done = Some 0
return_number (judged verdict) = None
return_number (copied xs) = Some 0
return_number (counts sound others) = None
return_number (entry_is entry) = None
return_number (lowest_is row) = None
return_number (mended count) = None
return_number (refused refusal) = Some (own_number refusal)

-- where the fault of an unsound row lies
abbrev pub verdict_layer : Verdict → Layer
verdict_layer Sound = Caller
verdict_layer (Hole place) = Shelf
verdict_layer (Card c) = Row

-- where a refusal's fault lies
abbrev pub layer : Refusal → Layer
layer DoesNotFit = Caller
layer NotTakenIn = Caller
layer TakenInAlready = Caller
layer (NoSuchRow row) = Caller
layer (BadSpan start) = Caller
layer (Unsound row verdict) = verdict_layer verdict
layer (Unreadable row place) = Shelf
layer (Misfit row place) = Tray
layer (TooManyUnsound count) = Caller
layer WrongPhase = Caller
layer (StillWalking row) = Caller

-- the order of the checks: a refusal's own number, with 8 and 9 exchanged
abbrev pub rank : Refusal → ℕ
rank r = cond (own_number r == 8) 9 (cond (own_number r == 9) 8 (own_number r))

-- any call but fit and intake wants a tray that is taken in
abbrev pub wants_intake : {X : Type 0} → Call X → Bool
wants_intake fit = false
wants_intake intake = false
wants_intake cross = true
wants_intake begin = true
wants_intake step = true
wants_intake totals = true
wants_intake first = true
wants_intake mend = true
wants_intake (audit row) = true
wants_intake (record_of row) = true
wants_intake (read row start count) = true
wants_intake (write row start symbols) = true
