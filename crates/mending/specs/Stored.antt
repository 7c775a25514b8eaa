-- Elements kept by their numbers.
use Rattle.std.specs.Prelude.{ℕ, ◌+◌, List, slice_index}
use Rattle.algebra.specs.Algebra.{Field, minus}
use Rattle.rows.specs.Weights.{element_of}

-- a sequence without its first elements, those below an index
abbrev pub from : {A : Type 0} → ℕ → (ℕ → A) → ℕ → A
from first f i = f (first + i)

module _ {A : Type 0} (F : Field A) where
  -- the element whose number stands at an index
  abbrev pub stored : List ℕ → ℕ → A
  stored numbers i = element_of F (slice_index numbers i)

  -- the right-hand side at i once row and column `first` are eliminated
  abbrev pub reduced_at : (ℕ → A) → (ℕ → A) → (ℕ → A) → ℕ → ℕ → A
  reduced_at a b c first i =
      F.mul (F.inv (minus F (a first) (a i))) (minus F (F.mul (minus F (a i) (b first)) (c i)) (F.mul (minus F (a first) (b first)) (c first)))

  -- unknown j, back from that of the system in which row and column `first` are eliminated
  abbrev pub grown_at : (ℕ → A) → (ℕ → A) → (ℕ → A) → ℕ → ℕ → A
  grown_at a b y first j = F.mul (minus F (a first) (b j)) (F.mul (F.inv (minus F (b j) (b first))) (y j))
