-- For code: what loops find is what the definitions name.
use Rattle.std.proofs.Common.{◌≡◌, ℕ, ◌<◌, ◌≤◌, Bool, true, false, Some, None, Option, MatchOption, sym, refl, ap, inl, inr, arith}
use Rattle.std.proofs.lemmas.Bool.{both_ways, cases_order}
use Rattle.rules.specs.Search.{lowest, lowest_pair}
use Rattle.rules.proofs.Found.{Found, FoundPair, found_lowest, found_lowest_pair, none_lowest}

-- a loop left at i
pub lowest_at : (bound : ℕ) (test : ℕ → Bool) (i : ℕ) → i < bound → test i ≡ true → ((j : ℕ) → j < i → test j ≡ false) → lowest bound test ≡ Some i
lowest_at bound test i h e none = go (lowest bound test) (found_lowest bound test)
  where
    go : (o : Option ℕ) → Found test 0 bound o → o ≡ Some i
    go None f = absurd (both_ways _ (f i (omega arith) h) e)
    go (Some j) f =
        elim (cases_order j i) [
          | inl same ↦ ap Some same
          | inr (inl less) ↦ absurd (both_ways _ (none j less) f.2)
          | inr (inr more) ↦ absurd (both_ways _ (f.3 i (omega arith) more) e)
        ]

-- what a search of a range finds
pub lowest_found : (bound : ℕ) (test : ℕ → Bool) (found : Option ℕ)
    → MatchOption found ((i : ℕ) → 0 ≤ i → i < bound → i < bound → test i ≡ false)
    (λ i. (0 ≤ i) × (i < bound) × (i < bound → test i ≡ true) × ((j : ℕ) → 0 ≤ j → j < i → j < bound → test j ≡ false))
    → found ≡ lowest bound test
lowest_found bound test None none = sym (none_lowest bound test (λ i l. none i (omega arith) l l))
lowest_found bound test (Some i) first =
    sym (lowest_at bound test i first.1 (first.2 first.1) (λ j l. first.3 j (omega arith) l (omega arith)))

-- two nested loops left at a row and a place, and two that ran to their end
module _ (rows places : ℕ) (test : ℕ → ℕ → Bool) where
  pub lowest_pair_at : (row place : ℕ) → row < rows → place < places → test row place ≡ true → ((t : ℕ) → t < place → test row t ≡ false)
      → ((r t : ℕ) → r < row → t < places → test r t ≡ false) → lowest_pair rows places test ≡ Some (row, place)
  lowest_pair_at row place h l e before above = go (lowest_pair rows places test) (found_lowest_pair rows places test)
    where
      go : (o : Option (ℕ × ℕ)) → FoundPair test places 0 rows o → o ≡ Some (row, place)
      go None f = absurd (both_ways _ (f row (omega arith) h place l) e)
      go (Some (r, t)) f =
          elim (cases_order r row) [
            | inl same ↦ elim (cases_order t place) [
              | inl at ↦ rw (same, at)
              | inr (inl less) ↦ absurd (both_ways _ (before t less) (rw same at f.3))
              | inr (inr more) ↦ absurd (both_ways _ (rw same at (f.4 place more)) e)
            ]
            | inr (inl less) ↦ absurd (both_ways _ (above r t less f.2) f.3)
            | inr (inr more) ↦ absurd (both_ways _ (f.5 row (omega arith) more place l) e)
          ]

  pub lowest_pair_nowhere : ((r t : ℕ) → r < rows → t < places → test r t ≡ false) → lowest_pair rows places test ≡ None
  lowest_pair_nowhere none = go (lowest_pair rows places test) (found_lowest_pair rows places test)
    where
      go : (o : Option (ℕ × ℕ)) → FoundPair test places 0 rows o → o ≡ None
      go None f = refl
      go (Some (r, t)) f = absurd (both_ways _ (none r t f.1 f.2) f.3)
