-- An array made place by place.
use Rattle.std.proofs.Common.{ℕ, ◌≡◌, zero, suc, ◌+◌, ◌<◌, ◌≤◌, List, sym, subst, arith}
use native.Mathlib.Decide.{ℕ_discrete}
use Rattle.std.specs.Array.{IsElementAt, IsFromFnResultFrom}
use Rattle.std.specs.Fn.{Called}
use denote.Param.Members.{Mut}

-- where each call leaves the closure as it was, and gives what holds of its number
module _ {F B : Type 0} (g : Mut F (ℕ × Unit {0}) B) (f : F) (P : ℕ → B → Type 0)
    (each : (j : ℕ) (y : B) (q : F) → Called g f (j, tt) y q → (q ≡ f) × P j y) where
  pub made : (ys : List B) (count from : ℕ) → IsFromFnResultFrom g f ys from count → (j : ℕ) → from ≤ j → j < from + count → (y : B) × IsElementAt ys j y × P j y
  made ys zero from r j h l = absurd (omega arith)
  made ys (suc count) from r j h l =
      let called = each from r.1 r.0 r.3 in
      elim (ℕ_discrete j from) [
        | yes e ↦ subst (λ v. (y : B) × IsElementAt ys v y × P v y) (sym e) (r.1, r.2, called.1)
        | no ne ↦ made ys count (from + 1) (subst (λ v. IsFromFnResultFrom g v ys (from + 1) count) called.0 r.4) j (omega arith) (omega arith)
      ]
