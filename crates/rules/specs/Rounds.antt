-- A whole round: over after as many steps as there are rows, with every row's verdict on its sheet.
use Rattle.std.specs.Prelude.{◌≡◌, ℕ, ◌+◌, ◌<◌}
use Rattle.algebra.specs.Algebra.{Field}
use Rattle.rules.specs.Calls.{begin, step, totals, Answer, done, counts}
use Rattle.rules.specs.Promises.{Promise}
use Rattle.rules.specs.Search.{counted}
use Rattle.rules.specs.States.{State, k, p, audited, sound, unsound_count}
use Rattle.rules.specs.Updates.{entry_of}
use Rattle.rules.specs.declared.Entry.TheVariants.{Read}
use Rattle.rules.specs.declared.Round.TheVariants.{Walking, Over}

module _ {X : Type 0} (F : Field X) where
  -- A round begun in state s and stepped so many times, with nothing between, and the state that it has led to.
  pub data Walked (s : State X) : ℕ → State X → Type 0 where
    begun : (t : State X) → Promise F s begin done t → Walked s 0 t
    stepped : (i : ℕ) (t : State X) → Walked s i t → (answer : Answer X) (t' : State X) → Promise F t step answer t' → Walked s (i + 1) t'

  -- The round is over. Each record holds the verdict that an audit of its row gives, and totals answers how many rows are sound and how many are not.
  pub record Finished (s t : State X) : Type 0 where
    pub over : t.round ≡ Over
    pub entries : (row : ℕ) → row < k s + p s → entry_of t row ≡ Read (audited F s row)
    pub totalled : (answer : Answer X) (t' : State X) → Promise F t totals answer t' → answer ≡ counts (counted (k s + p s) (sound F s)) (unsound_count F s)

  -- A round walks at row i after i steps, and after one step for each row it is finished.
  abbrev pub RoundExact : Type 0
  RoundExact = (s : State X) (i : ℕ) (t : State X) → Walked s i t → (i < k s + p s → t.round ≡ Walking i) × (i ≡ k s + p s → Finished s t)
