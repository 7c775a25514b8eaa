-- Puts one after another, and what each does to its shelf.
use Rattle.std.specs.Prelude.{ℕ, zero, suc, ◌+◌, List, [], ◌∷◌, ◌++◌}

module _ {S X : Type 0} (stores : S → ℕ → ℕ → X → S → Type 0) where
  -- A shelf as puts at these places, by row and place in the order in which they were made, leave it, and nothing but puts. Of a shelf that says nothing in
  -- stores it says nothing; but what holds for every stores, as it does of the calls, leaves no other way to change one.
  pub data PutsAt (before : S) : List (ℕ × ℕ) → S → Type 0 where
    unput : PutsAt before [] before
    then_put : {places : List (ℕ × ℕ)} {s after : S} → PutsAt before places s → (row place : ℕ) → (x : X) → stores s row place x after → PutsAt before (places ++ ((row, place) ∷ [])) after

  -- the same, at any places
  pub record ByPuts (before after : S) : Type 0 where
    pub places : List (ℕ × ℕ)
    pub puts : PutsAt before places after

-- so many places of a row, from a start upward
abbrev pub places_of : ℕ → ℕ → ℕ → List (ℕ × ℕ)
places_of row start zero = []
places_of row start (suc count) = places_of row start count ++ ((row, start + count) ∷ [])
