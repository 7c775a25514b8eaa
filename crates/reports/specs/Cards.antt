-- What intake makes of a new tray: the cards that it leaves, by their numbers, or why it was refused.
use Rattle.std.specs.Prelude.{◌≡◌, ℕ, ◌+◌, cond, ◌&&◌, List, [], map, min, take, Ok, Err, Result, nat_lt, slice_index_or}
use Rattle.std.specs.List.{range_with_len}
use Rattle.algebra.specs.Algebra.{Field}
use Rattle.shelves.specs.Contents.{Contents}
use Rattle.rules.specs.Calls.{Answer, intake, done, refused}
use Rattle.rules.specs.Promises.{Promise}
use Rattle.rules.specs.States.{State, k, p, n, m, symbol_at}
use Rattle.rules.specs.declared.Refusal.{Refusal}
use Rattle.reports.specs.declared.cards.Cards.{Cards}

-- x 0, .., x (count - 1)
abbrev pub listed : {X : Type 0} → (count : ℕ) → (ℕ → X) → List X
listed count x = map x (range_with_len 0 count)

module _ {A : Type 0} (F : Field A) (s : State A) where
  -- the number of a component of a row's card, and 0 where there is none
  abbrev pub component_number : ℕ → ℕ → ℕ
  component_number row c = cond (nat_lt row (k s + p s) && nat_lt c (m s)) (F.number (symbol_at F s row (n s + c))) 0

  -- A table has room for 68 cards of 8 components, which no tray that fits exceeds.
  abbrev pub cards_of : Cards
  cards_of = record { rows = k s + p s; components = m s; cards = listed 68 (λ row. record { numbers = listed 8 (component_number row) }) }

-- the numbers of a row's components in such a table, and none beyond it
abbrev pub numbers_of : Cards → ℕ → List ℕ
numbers_of t row = take (min t.components 8) (slice_index_or t.cards row (record { numbers = [] })).numbers

abbrev pub outcome_answer : {A : Type 0} → Result Cards Refusal → Answer A
outcome_answer (Ok cards) = done
outcome_answer (Err r) = refused r

module _ {A : Type 0} (F : Field A) where
  -- the cards told are those that stand in the state after
  abbrev pub OutcomeCards : State A → Result Cards Refusal → Type 0
  OutcomeCards after (Ok cards) = cards ≡ cards_of F after
  OutcomeCards after (Err r) = Unit {0}

  -- An outcome of intake in a state: what the call's promise answers, and the cards that it leaves.
  pub record OutcomeOf (s : State A) (o : Result Cards Refusal) : Type 0 where
    pub after : State A
    pub promise : Promise F s intake (outcome_answer o) after
    pub cards : OutcomeCards after o

  -- What intake with this outcome leaves of a shelf: the contents of the state after.
  pub record ContentsLeft (s : State A) (o : Result Cards Refusal) (contents : Contents A) : Type 0 where
    pub after : State A
    pub promise : Promise F s intake (outcome_answer o) after
    pub same : contents ≡ after.contents
