-- The lowest numbers below a bound that pass a test.
use Rattle.std.specs.Prelude.{◌≡◌, ℕ, ◌<◌, Bool, true}
use Rattle.rules.specs.Search.{counted}

-- i is the number below a bound that passes a test and has so many before it that pass
pub record Picked (bound : ℕ) (test : ℕ → Bool) (before i : ℕ) : Type 0 where
  pub below : i < bound
  pub passes : test i ≡ true
  pub rank : counted i test ≡ before

-- what passes a test, below a bound, is what the test's answers say
abbrev pub Answers : (ℕ → Bool → Type 0) → ℕ → (ℕ → Bool) → Type 0
Answers answers bound passes = (i : ℕ) (answer : Bool) → i < bound → answers i answer → answer ≡ passes i
