-- Lists by their entries.
use Rattle.std.proofs.Common.{◌≡◌, ℕ, zero, suc, ◌+◌, ◌<◌, List, get_or, sym, ap, ◌∙◌, subst, arith}
use Rattle.std.proofs.lemmas.List.FromFn.{fill_by_all, length-map-range_with_len, get_or-map-range_with_len}
use Rattle.std.specs.Array.{IsFromFnResult, IsFromFnResultFrom}
use Rattle.std.specs.Fn.{Called}
use Rattle.reports.specs.Cards.{listed}
use denote.Param.Members.{Mut}

-- what calls of a closure gave that answers x of each number and changes nothing it holds
module _ {X Q : Type 0} (g : Mut Q (ℕ × Unit {0}) X) (x : ℕ → X) (f : Q) (answers : (i : ℕ) (y : X) (q : Q) → Called g f (i, tt) y q → (y ≡ x i) × (q ≡ f)) where
  called_at : (ys : List X) (n j : ℕ) → IsFromFnResultFrom g f ys j n → (i : ℕ) (d : X) → i < n → get_or ys (j + i) d ≡ x (j + i)
  called_at ys zero j r i d h = absurd (omega arith)
  called_at ys (suc n) j (q, y, at, k, rest) zero d h = ap (λ v. get_or ys v d) e ∙ at.1 d ∙ (answers j y q k).0 ∙ ap x (sym e)
    where
      e : j + 0 ≡ j
      e = omega arith
  called_at ys (suc n) j (q, y, at, k, rest) (suc i) d h =
      let e : j + 1 + i ≡ j + suc i = omega arith in
      let r : IsFromFnResultFrom g f ys (j + 1) n = subst (λ v. IsFromFnResultFrom g v ys (j + 1) n) (answers j y q k).1 rest in
      subst (λ v. get_or ys v d ≡ x v) e (called_at ys n (j + 1) r i d (omega arith))

  pub listed_by : (d : X) (ys : List X) (n : ℕ) → IsFromFnResult g f ys n → ys ≡ listed n x
  listed_by d ys n r = fill_by_all x ys n d r.long (λ i h. let e : 0 + i ≡ i = omega arith in subst (λ v. get_or ys v d ≡ x v) e (called_at ys n 0 r.each i d h))

pub listed_same : {X : Type 0} (count : ℕ) (x y : ℕ → X) (d : X) → ((i : ℕ) → i < count → x i ≡ y i) → listed count x ≡ listed count y
listed_same count x y d e =
    fill_by_all y (listed count x) count d (length-map-range_with_len x 0 count) (λ i h. get_or-map-range_with_len x 0 count i i d h (omega arith) ∙ e i h)
