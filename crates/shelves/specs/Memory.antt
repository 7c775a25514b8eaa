-- The contents of a shelf over lent symbols and marks, row after row.
use Rattle.std.specs.Prelude.{ℕ, zero, suc, ◌+◌, ◌*◌, ◌<◌, Bool, cond, ◌&&◌, List, [], ◌∷◌, length, Some, None, Option, ◌==◌, slice_index, slice_set}
use Rattle.shelves.specs.Contents.{Cell, symbol, hole, Contents, filled, nothing, within}

-- what stands at an index of the symbols
abbrev pub stored : {A : Type 0} → List A → ℕ → Cell A
stored [] i = hole
stored (x ∷ xs) zero = symbol x
stored (x ∷ xs) (suc i) = stored xs i

-- mark 1 means a symbol, any other mark a hole
abbrev pub marked : {A : Type 0} → ℕ → Cell A → Cell A
marked mark cell = cond (mark == 1) cell hole

-- both pieces of memory have the size of the rows
abbrev pub sized : {A : Type 0} → ℕ → ℕ → List A → List ℕ → Bool
sized rows places symbols marks = rows * places == length symbols && rows * places == length marks

abbrev pub laid : {A : Type 0} → ℕ → ℕ → List A → List ℕ → Contents A
laid rows places symbols marks = filled rows places (λ row place. let i = row * places + place in marked (slice_index marks i) (stored symbols i))

-- over memory of another size there are no rows and no places
abbrev pub memory : {A : Type 0} → ℕ → ℕ → List A → List ℕ → Contents A
memory rows places symbols marks = cond (sized rows places symbols marks) (laid rows places symbols marks) nothing

-- the index of a row and a place, if the shelf has them
abbrev pub spot_in : {A : Type 0} → ℕ → ℕ → List A → List ℕ → ℕ → ℕ → Option ℕ
spot_in rows places symbols marks row place =
    cond (sized rows places symbols marks && within rows places row place) (Some (row * places + place)) None

-- a list with x at an index, if there is one
abbrev pub put_in : {A : Type 0} → Option ℕ → A → List A → List A
put_in None x xs = xs
put_in (Some i) x xs = slice_set xs i x

-- an index that was found lies within both pieces of memory
abbrev pub SpotWithin : {A : Type 0} → List A → List ℕ → Option ℕ → Type 0
SpotWithin symbols marks None = Unit {0}
SpotWithin symbols marks (Some i) = (i < length symbols) × (i < length marks)
