-- What the check amounts to: the bytes that are accepted are the images, laid out part by part.
use Rattle.std.specs.Prelude.{◌≡◌, ℕ, ◌+◌, ◌*◌, List, ◌∷◌, ◌++◌, length, Ok, Result}
use Rattle.images.specs.declared.Head.{Head}
use Rattle.images.specs.declared.ImageRefusal.{ImageRefusal}
use Rattle.images.specs.Image.{field_number, code_width, row_count, place_count}

-- the bytes are the head, a mark for each symbol, and then a code for each
pub record Image (h : Head) (bytes : List ℕ) : Type 0 where
  pub high : ℕ
  pub low : ℕ
  pub marks : List ℕ
  pub codes : List ℕ
  pub block_length : h.block_length ≡ high * 256 + low
  pub laid_out : bytes ≡ field_number h.field ∷ h.data_rows ∷ h.parity_rows ∷ h.card_length ∷ high ∷ low ∷ (marks ++ codes)
  pub one_mark_each : length marks ≡ row_count h * place_count h
  pub one_code_each : length codes ≡ row_count h * place_count h * code_width h.field

-- an answer accepts with a head exactly where the bytes are an image with that head
abbrev pub ExactlyTheImages : List ℕ → Result Head ImageRefusal → Type 0
ExactlyTheImages bytes r = (h : Head) → (r ≡ Ok h → Image h bytes) × (Image h bytes → r ≡ Ok h)
