-- What cross accepts.
use Rattle.std.specs.Prelude.{◌≡◌, ℕ, ◌+◌, ◌<◌, true}
use Rattle.algebra.specs.Algebra.{Field}
use Rattle.rules.specs.Calls.{cross, Answer, done}
use Rattle.rules.specs.Exact.{ParityFits}
use Rattle.rules.specs.Promises.{Promise}
use Rattle.rules.specs.States.{State, k, p, n, symbol_at, fits, sound}

module _ {X : Type 0} (F : Field X) where
  -- Where all rows are sound and the parity rows fit in their blocks, cross accepts: then the cards fit too.
  abbrev pub CrossAccepts : Type 0
  CrossAccepts = (s : State X) → fits F s ≡ true → s.taken_in ≡ true
      → ((row : ℕ) → row < k s + p s → sound F s row ≡ true)
      → ((i place : ℕ) → i < p s → place < n s → ParityFits F (k s) (symbol_at F s) i place)
      → (answer : Answer X) (s' : State X) → Promise F s cross answer s' → answer ≡ done
