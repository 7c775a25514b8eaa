-- Parity rows written down, one more and none.
use Rattle.std.proofs.Common.{refl, true, ◌≡◌, ℕ, zero, suc, ◌+◌, ◌*◌, ◌-◌, ◌<◌, ◌≤◌, min, List, [], ◌∷◌, ◌++◌, length, set, take, drop, sym, ap, ap₂, ◌∙◌, add-zero, arith, inl, inr, length-drop, length-append, length-take}
use Rattle.std.proofs.lemmas.Bool.Decides.{nat_tests}
use Rattle.std.proofs.Math.Nat.{mul-le-mul_left}
use Rattle.std.proofs.lemmas.Bool.{cases_lt}
use Rattle.std.proofs.lemmas.List.{take_more_set, drop_min, take_all, drop_all, take-append-drop, append-nil}
use Rattle.algebra.specs.Algebra.{Field}
use Rattle.rules.specs.Codes.{combination}
use Rattle.rules.specs.Views.{element_at}
use Rattle.rules.specs.declared.Sizes.{Sizes}
use Rattle.shelves.specs.Contents.{Contents}
use Rattle.ffi.specs.Answers.{written_at}
use Rattle.ffi.specs.Parity.{has_rows, row_numbers, rows_written, parity_written}

-- what the test of the rows says
pub rows_allowed : {A : Type 0} (F : Field A) (sizes : Sizes) → has_rows F sizes ≡ true → (sizes.parity_rows ≤ 4) × (sizes.data_rows ≤ 64) × (sizes.data_rows + 4 ≤ F.size)
rows_allowed F sizes e = (grind (arith, nat_tests), grind (arith, nat_tests), grind (arith, nat_tests))

-- nothing written, and something written beyond the room
written_none : (at : ℕ) (room : List ℕ) → written_at at [] room ≡ room
written_none at room =
    ap (λ (v : List ℕ). take at room ++ (v ++ drop at room)) (take_all (length (drop at room)) [] (omega arith)) ∙ take-append-drop at room

pub written_beyond : (at : ℕ) (xs room : List ℕ) → length room ≤ at → written_at at xs room ≡ room
written_beyond at xs room h =
    let rest : drop at room ≡ [] = drop_all at room h in
    let none : take 0 xs ++ drop (length xs) [] ≡ [] = ap (λ (v : List ℕ). take 0 xs ++ v) (drop_all (length xs) [] (omega arith)) in
    ap₂ (λ (a b : List ℕ). a ++ b) (take_all at room h) (ap (λ (v : List ℕ). take (length v) xs ++ drop (length xs) v) rest ∙ none) ∙ append-nil room

written_length : (at : ℕ) (xs room : List ℕ) → length (written_at at xs room) ≡ length room
written_length at xs room = simp (length-append, length-take, length-drop) (omega arith)

module _ {X A : Type 0} (F : Field A) (meaning : X → A) (contents : Contents X) (sizes : Sizes) where
  abbrev row : ℕ → ℕ → ℕ → List ℕ
  row = row_numbers F meaning contents sizes

  abbrev rows : ℕ → List ℕ → List ℕ
  rows = rows_written F meaning contents sizes

  abbrev n : ℕ
  n = sizes.block_length

  abbrev number_at : ℕ → ℕ → ℕ
  number_at i place = F.number (combination F sizes.data_rows (λ j. element_at F meaning contents j place) i)

  row_last : (i start count : ℕ) → row i start (suc count) ≡ row i start count ++ number_at i (start + count) ∷ []
  row_last i start zero = ap (λ v. number_at i v ∷ []) (sym (add-zero start))
  row_last i start (suc count) =
      let e : start + 1 + count ≡ start + suc count = omega arith in
      ap (λ xs. number_at i start ∷ xs) (row_last i (start + 1) count ∙ ap (λ v. row i (start + 1) count ++ number_at i v ∷ []) e)

  -- one number more
  pub row_more : (i place : ℕ) (numbers : List ℕ) (v : ℕ) → place < length numbers → take place numbers ≡ row i 0 place → v ≡ number_at i place
      → take (place + 1) (set numbers place v) ≡ row i 0 (place + 1)
  row_more i place numbers v inside before is =
      let zeroth : 0 + place ≡ place = omega arith in
      let next : suc place ≡ place + 1 = omega arith in
      take_more_set numbers place v inside ∙ ap₂ (λ (a : List ℕ) (b : ℕ). a ++ b ∷ []) before (is ∙ ap (number_at i) (sym zeroth)) ∙ sym (row_last i 0 place) ∙ ap (row i 0) next

  row_part : (i m count start : ℕ) → take m (row i start count) ≡ row i start (min m count)
  row_part i zero count start =
      let e : min 0 count ≡ 0 = omega arith in
      ap (row i start) (sym e)
  row_part i (suc m) zero start =
      let e : min (suc m) 0 ≡ 0 = omega arith in
      ap (row i start) (sym e)
  row_part i (suc m) (suc count) start =
      let e : min (suc m) (suc count) ≡ suc (min m count) = omega arith in
      ap (λ xs. number_at i start ∷ xs) (row_part i m count (start + 1)) ∙ ap (row i start) (sym e)

  row_length : (i start count : ℕ) → length (row i start count) ≡ count
  row_length i start zero = refl
  row_length i start (suc count) = ap suc (row_length i (start + 1) count)

  -- one row more, as far as there is room
  pub row_put : (i from to : ℕ) (room new : List ℕ) → from ≡ i * n → to ≡ min (from + n) (length room) → from ≤ length room → new ≡ row i 0 (to - from)
      → take from room ++ (new ++ drop (to - from) (drop from room)) ≡ written_at (i * n) (row i 0 n) room
  row_put i from to room new begins ends inside is =
      let rest = drop from room in
      let long = length-drop from room in
      let part : to - from ≡ min (length rest) n = omega arith in
      let same : to - from ≡ min n (length rest) = omega arith in
      ap (λ (v : List ℕ). take from room ++ v)
      (ap₂ (λ (a b : List ℕ). a ++ b) (is ∙ ap (row i 0) part ∙ sym (row_part i (length rest) n 0))
      (ap (λ v. drop v rest) same ∙ drop_min n rest ∙ ap (λ v. drop v rest) (sym (row_length i 0 n))))
      ∙ ap (λ v. written_at v (row i 0 n) room) begins

  rows_length : (i : ℕ) (room : List ℕ) → length (rows i room) ≡ length room
  rows_length zero room = refl
  rows_length (suc i) room = written_length (i * n) (row i 0 n) (rows i room) ∙ rows_length i room

  -- rows beyond the room
  pub rows_past : (p i : ℕ) (room : List ℕ) → length room ≤ i * n → i ≤ p → rows p room ≡ rows i room
  rows_past zero i room h l =
      let e : 0 ≡ i = omega arith in
      ap (λ v. rows v room) e
  rows_past (suc q) i room h l =
      elim (cases_lt q i) [
        | inl b ↦ (let e : suc q ≡ i = omega arith in ap (λ v. rows v room) e)
        | inr b ↦ written_beyond (q * n) (row q 0 n) (rows q room) (omega (arith, mul-le-mul_left n b, rows_length q room, h)) ∙ rows_past q i room h b
      ]

  -- rows of no places
  rows_none : n ≡ 0 → (p : ℕ) (room : List ℕ) → rows p room ≡ room
  rows_none e zero room = refl
  rows_none e (suc p) room = ap (λ v. written_at (p * n) (row p 0 v) (rows p room)) e ∙ written_none (p * n) (rows p room) ∙ rows_none e p room

  pub parity_none : n ≡ 0 → (times : ℕ) (room : List ℕ) → parity_written F meaning contents sizes times room ≡ room
  parity_none e zero room = refl
  parity_none e (suc times) room = rows_none e sizes.parity_rows (parity_written F meaning contents sizes times room) ∙ parity_none e times room
