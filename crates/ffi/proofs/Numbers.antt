-- Numbers written over others, and the elements of numbers, one by one.
use Rattle.std.specs.Prelude.{map}
use Rattle.std.proofs.Common.{◌≡◌, ℕ, zero, suc, ◌+◌, ◌<◌, ◌≤◌, List, [], ◌∷◌, ◌++◌, length, take, drop, set, get_or, refl, sym, ap, ap₂, ◌∙◌, arith, add-zero}
use Rattle.std.proofs.lemmas.List.{take_more, take_all, take_more_set, take-take, drop_all, map-append, get_or-drop, length-take-le, drop_more, set_at, append_assoc}
use Rattle.algebra.specs.Algebra.{Field}
use Rattle.rows.specs.Weights.{element_of}
use Rattle.ffi.specs.Answers.{written_over}
use Rattle.ffi.specs.Script.{elements}

-- one number more written over a list that goes so far
pub written_more : (xs old : List ℕ) (i : ℕ) → i < length xs → i < length old → written_over (take (i + 1) xs) old ≡ set (written_over (take i xs) old) i (get_or xs i 0)
written_more xs old i h l =
    let x = get_or xs i 0 in
    let more : length (take (i + 1) xs) ≡ i + 1 = length-take-le (i + 1) xs (omega arith) in
    let less : length (take i xs) ≡ i = length-take-le i xs (omega arith) in
    let left : written_over (take (i + 1) xs) old ≡ (take i xs ++ x ∷ []) ++ drop (i + 1) old =
    ap₂ (λ a b. a ++ drop b old) (take_all (length old) (take (i + 1) xs) (omega arith) ∙ take_more xs i 0 h) more in
    let right : written_over (take i xs) old ≡ take i xs ++ get_or old i 0 ∷ drop (i + 1) old =
    ap₂ (λ a b. a ++ b) (take_all (length old) (take i xs) (omega arith)) (ap (λ b. drop b old) less ∙ drop_more old i 0 l) in
    left ∙ append_assoc (take i xs) (x ∷ []) (drop (i + 1) old) ∙ sym (ap (λ ys. set ys i x) right ∙ set_at (take i xs) (get_or old i 0) (drop (i + 1) old) x i less)

-- and over one that does not
pub written_past : (xs old : List ℕ) (i : ℕ) → i < length xs → length old ≤ i → written_over (take (i + 1) xs) old ≡ written_over (take i xs) old
written_past xs old i h l =
    let more : length old ≤ length (take (i + 1) xs) = omega (arith, length-take-le (i + 1) xs) in
    let less : length old ≤ length (take i xs) = omega (arith, length-take-le i xs) in
    ap₂ (λ a b. a ++ b) (take-take (length old) (i + 1) xs (omega arith) ∙ sym (take-take (length old) i xs l))
    (drop_all (length (take (i + 1) xs)) old more ∙ sym (drop_all (length (take i xs)) old less))

module _ {A : Type 0} (F : Field A) where
  -- one element more
  elements_last : (numbers : List ℕ) (start count : ℕ) → elements F numbers start (suc count) ≡ elements F numbers start count ++ element_of F (get_or numbers (start + count) 0) ∷ []
  elements_last numbers start zero = ap (λ v. element_of F (get_or numbers v 0) ∷ []) (sym (add-zero start))
  elements_last numbers start (suc count) =
      let e : start + 1 + count ≡ start + suc count = omega arith in
      ap (λ xs. element_of F (get_or numbers start 0) ∷ xs) (elements_last numbers (start + 1) count ∙ ap (λ v. elements F numbers (start + 1) count ++ element_of F (get_or numbers v 0) ∷ []) e)

  pub elements_more : (numbers : List ℕ) (start count : ℕ) → elements F numbers start (count + 1) ≡ elements F numbers start count ++ element_of F (get_or numbers (start + count) 0) ∷ []
  elements_more numbers start count =
      let e : count + 1 ≡ suc count = omega arith in
      ap (elements F numbers start) e ∙ elements_last numbers start count

  -- the numbers from a start on, taken as a list of their own
  pub elements_from : (numbers : List ℕ) (from start count : ℕ) → elements F (drop from numbers) start count ≡ elements F numbers (from + start) count
  elements_from numbers from start zero = refl
  elements_from numbers from start (suc count) =
      let e : from + (start + 1) ≡ from + start + 1 = omega arith in
      ap₂ (λ x xs. element_of F x ∷ xs) (get_or-drop from numbers start 0) (elements_from numbers from (start + 1) count ∙ ap (λ v. elements F numbers v count) e)

  pub elements_length : (numbers : List ℕ) (start count : ℕ) → length (elements F numbers start count) ≡ count
  elements_length numbers start zero = refl
  elements_length numbers start (suc count) = ap suc (elements_length numbers (start + 1) count)

  -- one symbol more in a buffer that is loaded
  pub loaded_more : {X : Type 0} (meaning : X → A) (numbers : List ℕ) (i : ℕ) (symbols : List X) (x : X) → i < length symbols
      → map meaning (take i symbols) ≡ elements F numbers 0 i → meaning x ≡ element_of F (get_or numbers i 0)
      → map meaning (take (i + 1) (set symbols i x)) ≡ elements F numbers 0 (i + 1)
  loaded_more meaning numbers i symbols x inside before is =
      let e : 0 + i ≡ i = omega arith in
      ap (map meaning) (take_more_set symbols i x inside) ∙ map-append meaning (take i symbols) (x ∷ [])
      ∙ ap₂ (λ a b. a ++ (b ∷ [])) before (is ∙ sym (ap (λ v. element_of F (get_or numbers v 0)) e)) ∙ sym (elements_more numbers 0 i)

-- what stands in a list, under a function
pub map_at : {X : Type 0} (f : X → ℕ) (xs : List X) (i : ℕ) (x : X) → i < length xs → x ≡ get_or xs i x → f x ≡ get_or (map f xs) i 0
map_at f [] i x h e = absurd (omega arith)
map_at f (y ∷ ys) zero x h e = ap f e
map_at f (y ∷ ys) (suc i) x h e = map_at f ys i x (omega arith) e

pub map_twice : {X Y Z : Type 0} (g : Y → Z) (f : X → Y) (xs : List X) → map (λ x. g (f x)) xs ≡ map g (map f xs)
map_twice g f [] = refl
map_twice g f (x ∷ xs) = ap (λ ys. g (f x) ∷ ys) (map_twice g f xs)
