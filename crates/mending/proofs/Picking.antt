-- Counting and picking the lowest numbers that pass a test, one number after the other.
use Rattle.std.proofs.Common.{◌≡◌, ℕ, ◌+◌, ◌<◌, ◌≤◌, Bool, true, false, cond, List, length, get_or, set, min, inl, inr, sym, subst, ap, ◌∙◌, arith, add-one}
use Rattle.std.proofs.lemmas.Bool.{cases_lt}
use Rattle.std.proofs.lemmas.List.{get_or-set_same, get_or-set_other}
use Rattle.rules.specs.Search.{counted}
use Rattle.rules.proofs.Counted.{counted_here, counted_skip}
use Rattle.mending.specs.Picked.{Picked}

-- of the numbers below i, the list begins with the lowest four that pass
pub record Picking (passes : ℕ → Bool) (i : ℕ) (at : List ℕ) (count : ℕ) : Type 0 where
  pub counts : count ≡ min 4 (counted i passes)
  pub picks : (b : ℕ) → b < count → Picked i passes b (get_or at b 0)

pub counted_hit : (passes : ℕ → Bool) (i : ℕ) → passes i ≡ true → counted (i + 1) passes ≡ counted i passes + 1
counted_hit passes i e = ap (λ n. counted n passes) (add-one i) ∙ counted_here i passes e

pub counted_miss : (passes : ℕ → Bool) (i : ℕ) → passes i ≡ false → counted (i + 1) passes ≡ counted i passes
counted_miss passes i e = ap (λ n. counted n passes) (add-one i) ∙ counted_skip i passes e

counted_rises : (passes : ℕ → Bool) (i : ℕ) → counted i passes ≤ counted (i + 1) passes
counted_rises passes i = let e : counted (i + 1) passes ≡ counted i passes + cond (passes i) 1 0 = ap (λ n. counted n passes) (add-one i) in omega arith

module _ (passes : ℕ → Bool) (i : ℕ) (at : List ℕ) (count : ℕ) (before : Picking passes i at count) where
  still : (b : ℕ) → b < count → Picked (i + 1) passes b (get_or at b 0)
  still b h = let pick = before.picks b h in record { below = omega (arith, pick.below); passes = pick.passes; rank = pick.rank }

  pub picking_hit : length at ≡ 4 → count < 4 → passes i ≡ true → Picking passes (i + 1) (set at count i) (count + 1)
  picking_hit long room on = record {
    counts = omega (arith, before.counts, counted_hit passes i on);
    picks = λ b h.
        elim (cases_lt b count) [
          | inl less ↦
              let e : get_or (set at count i) b 0 ≡ get_or at b 0 = get_or-set_other at count b i 0 (omega arith) in
              subst (Picked (i + 1) passes b) (sym e) (still b less)
          | inr more ↦
              let e : get_or (set at count i) b 0 ≡ i = let same : b ≡ count = omega arith in ap (λ v. get_or (set at count i) v 0) same ∙ get_or-set_same at count i 0 (omega (arith, long)) in
              subst (Picked (i + 1) passes b) (sym e) (record { below = omega arith; passes = on; rank = omega (arith, before.counts) })
        ];
  }

  pub picking_miss : passes i ≡ false → Picking passes (i + 1) at count
  picking_miss off = record { counts = omega (arith, before.counts, counted_miss passes i off); picks = still }

  pub picking_full : 4 ≤ count → Picking passes (i + 1) at count
  picking_full full = record { counts = omega (arith, before.counts, counted_rises passes i); picks = still }
