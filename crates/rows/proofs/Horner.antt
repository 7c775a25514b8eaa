-- A signature, summed from its last place down.
use Rattle.std.proofs.Common.{◌≡◌, ℕ, suc, ◌+◌, ◌-◌, ◌<◌, ◌≤◌, sym, ap, ◌∙◌, ap₂, add-zero, arith}
use Rattle.algebra.specs.Algebra.{Field, power}
use Rattle.algebra.specs.Sum.{sum_to}
use Rattle.algebra.proofs.Ring.{one-mul, mul_assoc}
use Rattle.algebra.proofs.Sums.{sum_first, sum_mul, sum_below}

module _ {A : Type 0} (F : Field A) (n : ℕ) (symbols : ℕ → A) (point : A) where
  -- the part of the sum from place t on, divided by the t-th power
  abbrev pub part : ℕ → A
  part t = sum_to F (n - t) (λ j. F.mul (power F point j) (symbols (t + j)))

  pub part_more : (t : ℕ) → 0 < t → t ≤ n → F.add (symbols (t - 1)) (F.mul point (part t)) ≡ part (t - 1)
  part_more t h k =
      let e : n - (t - 1) ≡ suc (n - t) = omega arith in
      let first : F.mul (power F point 0) (symbols (t - 1 + 0)) ≡ symbols (t - 1) = one-mul F _ ∙ ap symbols (add-zero (t - 1)) in
      let rest : sum_to F (n - t) (λ j. F.mul (power F point (suc j)) (symbols (t - 1 + suc j))) ≡ F.mul point (part t) =
      sum_below F (n - t) _ (λ j. F.mul point (F.mul (power F point j) (symbols (t + j)))) (λ j l. mul_assoc F _ _ _ ∙ (let s : t - 1 + suc j ≡ t + j = omega arith in ap (λ v. F.mul point (F.mul (power F point j) (symbols v))) s))
      ∙ sum_mul F (n - t) point (λ j. F.mul (power F point j) (symbols (t + j))) in
      sym (ap (λ v. sum_to F v (λ j. F.mul (power F point j) (symbols (t - 1 + j)))) e
      ∙ sum_first F (n - t) (λ j. F.mul (power F point j) (symbols (t - 1 + j)))
      ∙ ap₂ F.add first rest)
