-- What the searches of the rules come to: a refusal names the lowest row, and then the lowest place.
use Rattle.std.specs.Prelude.{◌≡◌, ℕ, ◌<◌, Bool, true, false, Some, None, Option}
use Rattle.rules.specs.Search.{lowest, lowest_pair}

-- What was found passes a test and is the lowest below a bound that does; where nothing was found, nothing below the bound does.
abbrev pub IsLowest : ℕ → (ℕ → Bool) → Option ℕ → Type 0
IsLowest bound test None = (i : ℕ) → i < bound → test i ≡ false
IsLowest bound test (Some i) = (i < bound) × (test i ≡ true) × ((j : ℕ) → j < i → test j ≡ false)

-- The same of a row and a place: no lower row has a place that passes, and the row has no lower one.
abbrev pub IsLowestPair : ℕ → ℕ → (ℕ → ℕ → Bool) → Option (ℕ × ℕ) → Type 0
IsLowestPair rows places test None = (r t : ℕ) → r < rows → t < places → test r t ≡ false
IsLowestPair rows places test (Some x) =
    (x.0 < rows) × (x.1 < places) × (test x.0 x.1 ≡ true)
    × ((t : ℕ) → t < x.1 → test x.0 t ≡ false) × ((r t : ℕ) → r < x.0 → t < places → test r t ≡ false)

abbrev pub LowestsAreLowest : Type 0
LowestsAreLowest =
    ((bound : ℕ) (test : ℕ → Bool) → IsLowest bound test (lowest bound test))
    × ((rows places : ℕ) (test : ℕ → ℕ → Bool) → IsLowestPair rows places test (lowest_pair rows places test))
