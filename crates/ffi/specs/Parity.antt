-- Parity rows worked from a shelf's data rows, by their numbers.
use Rattle.std.specs.Prelude.{◌≡◌, ◌&&◌, nat_le, Bool, cond, ℕ, zero, suc, ◌+◌, ◌*◌, List, [], ◌∷◌}
use Rattle.algebra.specs.Algebra.{Field}
use Rattle.rules.specs.Codes.{combination}
use Rattle.rules.specs.Views.{element_at}
use Rattle.rules.specs.declared.Sizes.{Sizes}
use Rattle.shelves.specs.Contents.{Contents}
use Rattle.ffi.specs.Answers.{written_at}
use Rattle.ffi.specs.Copies.{lent_contents}

-- no more rows than the rules allow, and elements of the field for all of them
abbrev pub has_rows : {A : Type 0} → Field A → Sizes → Bool
has_rows F sizes = nat_le sizes.parity_rows 4 && (nat_le sizes.data_rows 64 && nat_le (sizes.data_rows + 4) F.size)

module _ {X A : Type 0} (F : Field A) (meaning : X → A) (contents : Contents X) (sizes : Sizes) where
  -- the numbers of what parity row i holds at so many places from a start on
  abbrev pub row_numbers : ℕ → ℕ → ℕ → List ℕ
  row_numbers i start zero = []
  row_numbers i start (suc count) = F.number (combination F sizes.data_rows (λ j. element_at F meaning contents j start) i) ∷ row_numbers i (start + 1) count

  -- so many parity rows written down, one behind the other, as far as there is room
  abbrev pub rows_written : ℕ → List ℕ → List ℕ
  rows_written zero room = room
  rows_written (suc i) room = written_at (i * sizes.block_length) (row_numbers i 0 sizes.block_length) (rows_written i room)

  -- all parity rows, so many times
  abbrev pub parity_written : ℕ → List ℕ → List ℕ
  parity_written zero room = room
  parity_written (suc times) room = rows_written sizes.parity_rows (parity_written times room)

  -- the same for sizes with rows, and for others the numbers as they were
  abbrev pub parity_left : ℕ → List ℕ → List ℕ
  parity_left times room = cond (has_rows F sizes) (parity_written times room) room

-- What working the parity rows leaves of the numbers, over an image or over lent memory with its contents.
abbrev pub ParityOf : {X A : Type 0} → Field A → (X → A) → Bool → ℕ → Contents X → Sizes → ℕ → List ℕ → List ℕ → Type 0
ParityOf F meaning lent capacity image sizes times before after = after ≡ parity_left F meaning (cond lent (lent_contents capacity image) image) sizes times before
