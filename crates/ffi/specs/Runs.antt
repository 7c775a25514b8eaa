-- What a whole script does: one step after another, each from the tray and the numbers that the one before it left.
use Rattle.std.specs.Prelude.{◌≡◌, ℕ, zero, suc, ◌+◌, ◌*◌, min, List, drop, map, Result}
use Rattle.std.specs.Borrow.{MutBor}
use Rattle.std.specs.Fn.{Shared}
use Rattle.algebra.specs.Algebra.{Field}
use Rattle.rules.specs.Calls.{Answer, done, buffer_after}
use Rattle.rules.specs.Promises.{Promise}
use Rattle.rules.specs.declared.Refusal.{Refusal}
use Rattle.shelves.specs.Contents.{Contents}
use Rattle.shelves.specs.Puts.{ByPuts}
use Rattle.tray.specs.State.{state}
use Rattle.tray.specs.declared.Tray.{Tray}
use Rattle.ffi.specs.Answers.{answer_numbers, result_numbers, written_at}
use Rattle.ffi.specs.Script.{step_of, elements, call_of}
use Rattle.ffi.specs.declared.answers.Given.{Given}
use Rattle.ffi.specs.declared.script.Call.{Call}
use Rattle.ffi.specs.declared.script.Deed.TheVariants.{Call as Calls, Damage}
use Rattle.ffi.specs.declared.script.Desk.{Desk}
use Rattle.ffi.specs.declared.script.Step.{Step}

-- the step at an index: four words each
abbrev pub step_at : List ℕ → ℕ → Step
step_at script i = step_of (drop (4 * i) script)

-- how many numbers the steps before an index take
abbrev pub numbers_before : List ℕ → ℕ → ℕ
numbers_before script zero = 0
numbers_before script (suc i) = numbers_before script i + (step_at script i).count

-- a desk's numbers and answers are still those that it was given
pub record SameDesk {X : Type 0} (before after : Desk X) : Type 0 where
  pub numbers : after.numbers.ghost_name ≡ before.numbers.ghost_name
  pub answers : after.answers.ghost_name ≡ before.answers.ghost_name

-- What a call of a closure that damages a tray may make of it.
pub record ByClosure {D T : Type 0} (g : Shared D (MutBor T × (Step × Unit {0})) (Unit {0} × (MutBor T × Unit {0}))) (f : D) (t : T) (step : Step) (t' : T) : Type 0 where
  pub shown : MutBor T
  pub shows : shown.now ≡ t
  pub left : MutBor T
  pub met : g.post f (shown, (step, tt)) (tt, (left, tt))
  pub leaves : left.now ≡ t'

-- Below, stores says what a put makes of a shelf.
module _ {S X Y A : Type 0} (contents : S → Contents X) (stores : S → ℕ → ℕ → Y → S → Type 0) (meaning : X → A) (F : Field A) (room : ℕ) where
  -- the symbols of a step: the elements of its numbers, which begin at an index, no more than there is room for
  abbrev pub symbols_of : Step → ℕ → List ℕ → List A
  symbols_of step start numbers = elements F numbers start (min step.count room)

  -- A call on a tray: it answers as the rules promise, changes the shelf by puts alone, and the numbers of its symbols, as it leaves them, go back where they
  -- were taken from.
  pub record Calling (step : Step) (start : ℕ) (call : Call) (answer : Answer A) (t : Tray S X) (numbers : List ℕ) (t' : Tray S X) (numbers' : List ℕ) : Type 0 where
    pub promised : Promise F (state contents meaning t) (call_of call step (symbols_of step start numbers)) answer (state contents meaning t')
    pub puts : ByPuts stores t.shelf t'.shelf
    pub left : numbers' ≡ written_at start (map F.number (buffer_after (symbols_of step start numbers) answer)) numbers

  -- the same, of a result
  pub record Resulting (step : Step) (start : ℕ) (call : Call) (answered : Result Given Refusal) (t : Tray S X) (numbers : List ℕ) (t' : Tray S X) (numbers' : List ℕ) : Type 0 where
    pub answer : Answer A
    pub told_as : result_numbers answered ≡ answer_numbers answer
    pub calling : Calling step start call answer t numbers t' numbers'

module _ {S X Y A : Type 0} (contents : S → Contents X) (stores : S → ℕ → ℕ → Y → S → Type 0) (meaning : X → A) (F : Field A) (damages : Tray S X → Step → Tray S X → Type 0) (room : ℕ) where
  -- A step whose numbers begin at an index, and the five numbers of its answer at another. Damage answers as a call that is accepted with nothing to return.
  pub data Taken (step : Step) (start at : ℕ) (t : Tray S X) (ns rs : List ℕ) : Tray S X → List ℕ → List ℕ → Type 0 where
    called : {t' : Tray S X} {ns' : List ℕ} (call : Call) → step.deed ≡ Calls call → (answer : Answer A) → Calling contents stores meaning F room step start call answer t ns t' ns'
        → Taken step start at t ns rs t' ns' (written_at at (answer_numbers answer) rs)
    struck : {t' : Tray S X} → step.deed ≡ Damage → damages t step t' → Taken step start at t ns rs t' ns (written_at at (answer_numbers {X = A} done) rs)

  -- The first so many steps of a script, from a tray, numbers and room for answers to what they leave.
  pub data Runs (script : List ℕ) (t : Tray S X) (ns rs : List ℕ) : ℕ → Tray S X → List ℕ → List ℕ → Type 0 where
    begun : Runs script t ns rs zero t ns rs
    more : {i : ℕ} {t₁ : Tray S X} {ns₁ rs₁ : List ℕ} {t₂ : Tray S X} {ns₂ rs₂ : List ℕ} → Runs script t ns rs i t₁ ns₁ rs₁
        → Taken (step_at script i) (numbers_before script i) (5 * i) t₁ ns₁ rs₁ t₂ ns₂ rs₂ → Runs script t ns rs (suc i) t₂ ns₂ rs₂
