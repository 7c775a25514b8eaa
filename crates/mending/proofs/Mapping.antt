-- An array made by `map` from another.
use Rattle.std.proofs.Common.{◌≡◌, ℕ, zero, suc, ◌+◌, ◌<◌, ◌≤◌, List, get_or, sym, subst, subst₂, arith}
use native.Mathlib.Decide.{ℕ_discrete}
use Rattle.std.specs.Array.{MapsFrom}
use Rattle.std.specs.Fn.{Called}
use denote.Param.Members.{Mut}

-- where each call leaves the closure as it was, and gives what holds of its element
module _ {F A B : Type 0} (g : Mut F (A × Unit {0}) B) (f : F) (P : A → B → Type 0)
    (each : (x : A) (y : B) (q : F) → Called g f (x, tt) y q → (q ≡ f) × P x y) (d : A) (e : B) where
  pub mapped : (xs : List A) (ys : List B) (count from : ℕ) → MapsFrom g f xs ys from count → (j : ℕ) → from ≤ j → j < from + count → P (get_or xs j d) (get_or ys j e)
  mapped xs ys zero from r j h l = absurd (omega arith)
  mapped xs ys (suc count) from r j h l =
      let called = each r.1 r.2 r.0 r.5 in
      elim (ℕ_discrete j from) [
        | yes at ↦ subst (λ v. P (get_or xs v d) (get_or ys v e)) (sym at) (subst₂ P (sym (r.3.1 d)) (sym (r.4.1 e)) called.1)
        | no ne ↦ mapped xs ys count (from + 1) (subst (λ v. MapsFrom g v xs ys (from + 1) count) called.0 r.6) j (omega arith) (omega arith)
      ]
