-- The contents of an image, seen by one field: its number, the width of its codes and the number of its elements.
use Rattle.std.specs.Prelude.{ℕ, ◌+◌, ◌*◌, ◌<◌, ◌≤◌, cond, ◌&&◌, List, ◌++◌, length, take, drop, Some, None, Ok, Err, Option, Result, ◌==◌, slice_index, slice_set}
use Rattle.std.specs.Option.{option_map}
use Rattle.algebra.specs.Code.{code, decoded}
use Rattle.images.specs.declared.Head.{Head}
use Rattle.images.specs.declared.ImageRefusal.{ImageRefusal}
use Rattle.images.specs.Image.{field_number, code_width, row_count, place_count, checked}
use Rattle.shelves.specs.Contents.{Cell, symbol, hole, Contents, filled, nothing, within}
use Rattle.shelves.specs.Memory.{marked}
use Rattle.image_shelves.specs.declared.Spot.{Spot}

abbrev pub of_option : {A : Type 0} → Option A → Cell A
of_option None = hole
of_option (Some x) = symbol x

module _ (width : ℕ) where
  -- Marks lie behind the head, row after row, and codes behind the marks.
  abbrev pub place_spot : Head → ℕ → ℕ → Spot
  place_spot h row place = record {
    mark = 6 + (row * place_count h + place);
    code = 6 + row_count h * place_count h + (row * place_count h + place) * width;
  }

  abbrev pub spot_of : Option Head → ℕ → ℕ → Option Spot
  spot_of None row place = None
  spot_of (Some h) row place = cond (within (row_count h) (place_count h) row place) (Some (place_spot h row place)) None

  -- a mark and the code of a number put in the place of what stood there
  abbrev pub put_at : Option Spot → ℕ → List ℕ → List ℕ
  put_at None v bytes = bytes
  put_at (Some s) v bytes = take s.code (slice_set bytes s.mark 1) ++ (code width v ++ drop (s.code + width) bytes)

  -- a spot lies within the bytes, its mark before its code
  abbrev pub SpotWithin : List ℕ → Option Spot → Type 0
  SpotWithin bytes None = Unit {0}
  SpotWithin bytes (Some s) = (s.mark < s.code) × (s.code + width ≤ length bytes)

  module _ {A : Type 0} (size : ℕ) (symbol_of : ℕ → A) where
    -- mark 1 means a symbol, any other mark a hole, and a code of no element a hole too
    abbrev pub cell_at : List ℕ → Spot → Cell A
    cell_at bytes s = marked (slice_index bytes s.mark) (of_option (option_map symbol_of (decoded width size (take width (drop s.code bytes)))))

    abbrev pub contents_of : List ℕ → Option Head → Contents A
    contents_of bytes None = nothing
    contents_of bytes (Some h) = filled (row_count h) (place_count h) (λ row place. cell_at bytes (place_spot h row place))

module _ (kind width : ℕ) where
  abbrev pub of_field : Result Head ImageRefusal → Option Head
  of_field (Ok h) = cond (field_number h.field == kind && code_width h.field == width) (Some h) None
  of_field (Err r) = None

  -- the head, where the bytes are an image of the field
  abbrev pub head_if_own : List ℕ → Option Head
  head_if_own bytes = of_field (checked bytes)

  -- where the mark and the code of a row and a place lie, if the image has them
  abbrev pub image_spot : List ℕ → ℕ → ℕ → Option Spot
  image_spot bytes = spot_of width (head_if_own bytes)

  -- over bytes that are no image of the field there are no rows and no places
  abbrev pub image_contents : {A : Type 0} → ℕ → (ℕ → A) → List ℕ → Contents A
  image_contents size symbol_of bytes = contents_of width size symbol_of bytes (head_if_own bytes)
