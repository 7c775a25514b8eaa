-- The searches find the lowest.
use Rattle.std.proofs.Common.{◌≡◌, ℕ, Bool, Some, None, Option, refl}
use Rattle.rules.specs.Search.{lowest, lowest_pair}
use Rattle.rules.proofs.Found.{lowest_none, lowest_some, lowest_pair_none, lowest_pair_some}
use Rattle.worked.specs.Searches.{IsLowest, IsLowestPair, LowestsAreLowest}

one : (bound : ℕ) (test : ℕ → Bool) (o : Option ℕ) → lowest bound test ≡ o → IsLowest bound test o
one bound test None e = lowest_none bound test e
one bound test (Some i) e = lowest_some bound test i e

two : (rows places : ℕ) (test : ℕ → ℕ → Bool) (o : Option (ℕ × ℕ)) → lowest_pair rows places test ≡ o → IsLowestPair rows places test o
two rows places test None e = lowest_pair_none rows places test e
two rows places test (Some x) e = lowest_pair_some rows places test x.0 x.1 e

pub lowests_are_lowest : LowestsAreLowest
lowests_are_lowest = (λ bound test. one bound test (lowest bound test) refl, λ rows places test. two rows places test (lowest_pair rows places test) refl)
