-- Elements kept by their numbers, and arrays of them.
use Rattle.std.proofs.Common.{◌≡◌, ℕ, ◌∷◌, length, drop, slice_index, length-drop, ◌+◌, ◌<◌, List, ap, ap₂, ◌∙◌, sym, add-one, arith}
use Rattle.std.proofs.lemmas.List.{drop_more}
use Rattle.algebra.specs.Algebra.{Field, power}

pub numbered : {A : Type 0} (F : Field A) {y : A} (v : ℕ) (x : A) → (v < F.size → y ≡ F.element v) → v ≡ F.number x → y ≡ x
numbered F v x is e = is (let h = F.number_bound x in omega arith) ∙ ap F.element e ∙ F.element_number x

-- the product of two elements kept by number
pub numbered_product : {A : Type 0} (F : Field A) {x y z a b : A} {v w : ℕ} → v ≡ F.number a → w ≡ F.number b → x ≡ F.mul y z → (v < F.size → y ≡ F.element v) → (w < F.size → z ≡ F.element w) → x ≡ F.mul a b
numbered_product F {a = a} {b = b} {v = v} {w = w} va wb is at_v at_w = is ∙ ap₂ F.mul (numbered F v a at_v va) (numbered F w b at_w wb)

pub next_power : {A : Type 0} (F : Field A) {x : A} (a : A) (t : ℕ) {u : ℕ} → u ≡ t + 1 → x ≡ F.mul a (power F a t) → x ≡ power F a u
next_power F a t next is = is ∙ sym (ap (power F a) (next ∙ add-one t))

-- the next item of a list of which i items were gone through
pub next_item : (xs : List ℕ) (i x : ℕ) (rest : List ℕ) → drop i xs ≡ x ∷ rest → (x ≡ slice_index xs i) × (rest ≡ drop (i + 1) xs) × (i < length xs)
next_item xs i x rest e =
    let l : i < length xs = omega (arith, ap length e, length-drop i xs) in
    let same = sym e ∙ drop_more xs i 0 l in
    (ap (λ ys. slice_index ys 0) same, ap (drop 1) same, l)
