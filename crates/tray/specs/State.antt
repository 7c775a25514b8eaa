-- The state that promises speak of, from a tray over any shelf; and what a call's result answers.
use Rattle.std.specs.Prelude.{◌≡◌, ℕ, ◌+◌, true, cond, List, map, Ok, Err, Result, Some, None, Option}
use Rattle.algebra.specs.Algebra.{Field}
use Rattle.shelves.specs.Contents.{Contents, is_hole}
use Rattle.rules.specs.Calls.{Call, Answer, done, copied, counts, refused, wants_intake}
use Rattle.rules.specs.Promises.{Promise}
use Rattle.rules.specs.Search.{lowest_pair}
use Rattle.rules.specs.States.{State, k, p, cell, fits, audited, sound, misfit, with_cells}
use Rattle.rules.specs.Updates.{allowed}
use Rattle.rules.specs.Views.{seen_contents}
use Rattle.rules.specs.declared.Refusal.{Refusal}
use Rattle.rules.specs.declared.Refusal.TheVariants.{BadSpan, Unsound, Unreadable, Misfit}
use Rattle.tray.specs.declared.Tray.{Tray}

-- the sizes, the shelf's symbols as elements, whether it is taken in, the round and the sheet
abbrev pub state : {S X A : Type 0} → (S → Contents X) → (X → A) → Tray S X → State A
state contents meaning t = record {
  sizes = t.sizes;
  contents = seen_contents meaning (contents t.shelf);
  taken_in = t.taken_in;
  round = t.round;
  sheet = t.sheet;
}

-- the same tray over other contents
abbrev pub on_contents : {A : Type 0} → State A → Contents A → State A
on_contents s contents = record {
  sizes = s.sizes;
  contents = contents;
  taken_in = s.taken_in;
  round = s.round;
  sheet = s.sheet;
}

-- what a result answers: an accepted call what it returns, as an answer, and a refused one its refusal
abbrev pub answer_by : {A T : Type 0} → (T → Answer A) → Result T Refusal → Answer A
answer_by answer (Ok x) = answer x
answer_by answer (Err r) = refused r

-- an accepted call with nothing else to return answers 0
abbrev pub answer_of : {A : Type 0} → Result (Unit {0}) Refusal → Answer A
answer_of = answer_by (λ u. done)

-- a read answers what its buffer holds afterwards
abbrev pub read_answer : {X A : Type 0} → (X → A) → List X → Result (Unit {0}) Refusal → Answer A
read_answer meaning buffer = answer_by (λ u. copied (map meaning buffer))

-- a pair of counts: the sound rows and the others
abbrev pub counts_of : {A : Type 0} → ℕ × ℕ → Answer A
counts_of pair = counts pair.0 pair.1

-- What the checks that all calls on a tray share come to: the tray fits and is taken in; or every such call is refused.
abbrev pub Ready : {A : Type 0} → Field A → State A → Result (Unit {0}) Refusal → Type 0
Ready F s (Ok u) = (fits F s ≡ true) × (s.taken_in ≡ true)
Ready {A} F s (Err r) = (c : Call A) → wants_intake c ≡ true → Promise F s c (refused r) s

-- Where the sizes stay, an exchange is what damage does in a run: other cells inside the sizes, and nothing else.
abbrev pub ExchangedAs : {A : Type 0} → State A → Contents A → State A → Type 0
ExchangedAs s contents after = contents.rows ≡ s.contents.rows → contents.places ≡ s.contents.places → after ≡ with_cells s contents.at

module _ {A : Type 0} (F : Field A) (s : State A) where
  -- the first hole of a stretch of places that begins at start, its place counted from there
  abbrev pub stretch_hole : ℕ → ℕ → Option (ℕ × ℕ)
  stretch_hole start places = lowest_pair (k s + p s) places (λ row t. is_hole (cell s row (start + t)))

  -- the first place of the stretch at which a parity row does not fit
  abbrev pub stretch_misfit : ℕ → ℕ → Option (ℕ × ℕ)
  stretch_misfit start places = lowest_pair (p s) places (λ i t. misfit F s i (start + t))

  -- what a search for holes and one for misfits come to, holes first
  abbrev pub stretch_found : ℕ → Option (ℕ × ℕ) → Option (ℕ × ℕ) → Result (Unit {0}) Refusal
  stretch_found start (Some hole) misfit = Err (Unreadable hole.0 (start + hole.1))
  stretch_found start None (Some misfit) = Err (Misfit (k s + misfit.0) (start + misfit.1))
  stretch_found start None None = Ok tt

  abbrev pub stretch_checked : ℕ → ℕ → Result (Unit {0}) Refusal
  stretch_checked start places = stretch_found start (stretch_hole start places) (stretch_misfit start places)

  -- a span that is not allowed, and failing that a row that is not sound
  abbrev pub span_checked : ℕ → ℕ → ℕ → Result (Unit {0}) Refusal
  span_checked row start count = cond (allowed s start count) (cond (sound F s row) (Ok tt) (Err (Unsound row (audited F s row)))) (Err (BadSpan start))
