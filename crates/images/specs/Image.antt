-- The image of a tray. Six bytes of head say the field number, the data rows k, the parity rows p and the card
-- length m in one byte each, and the block length n in two, the highest first. A mark for each symbol follows,
-- and then a code for each symbol.
use Rattle.std.specs.Prelude.{ℕ, ◌+◌, ◌*◌, cond, List, length, Some, None, Ok, Err, Option, Result, ◌==◌, nat_lt, slice_index}
use Rattle.images.specs.declared.FieldKind.{FieldKind}
use Rattle.images.specs.declared.FieldKind.TheVariants.{Byte, Counter}
use Rattle.images.specs.declared.Head.{Head}
use Rattle.images.specs.declared.ImageRefusal.{ImageRefusal}
use Rattle.images.specs.declared.ImageRefusal.TheVariants.{TooShort, UnknownField, WrongLength}

abbrev pub field_number : FieldKind → ℕ
field_number Byte = 1
field_number Counter = 2

-- the bytes of one code
abbrev pub code_width : FieldKind → ℕ
code_width Byte = 1
code_width Counter = 3

abbrev pub field_numbered : ℕ → Option FieldKind
field_numbered v = cond (v == 1) (Some Byte) (cond (v == 2) (Some Counter) None)

-- k + p
abbrev pub row_count : Head → ℕ
row_count h = h.data_rows + h.parity_rows

-- n + m
abbrev pub place_count : Head → ℕ
place_count h = h.block_length + h.card_length

abbrev pub image_length : Head → ℕ
image_length h = 6 + row_count h * place_count h * (1 + code_width h.field)

abbrev pub refusal_number : ImageRefusal → ℕ
refusal_number TooShort = 21
refusal_number UnknownField = 22
refusal_number WrongLength = 23

abbrev pub head_of : FieldKind → List ℕ → Head
head_of f bytes = record {
  field = f;
  data_rows = slice_index bytes 1;
  parity_rows = slice_index bytes 2;
  card_length = slice_index bytes 3;
  block_length = slice_index bytes 4 * 256 + slice_index bytes 5;
}

abbrev pub long_enough : List ℕ → Head → Result Head ImageRefusal
long_enough bytes h = cond (length bytes == image_length h) (Ok h) (Err WrongLength)

abbrev pub of_field : List ℕ → Option FieldKind → Result Head ImageRefusal
of_field bytes None = Err UnknownField
of_field bytes (Some f) = long_enough bytes (head_of f bytes)

-- the answer of the image check: fewer than six bytes, then the field, then the length
abbrev pub checked : List ℕ → Result Head ImageRefusal
checked bytes = cond (nat_lt (length bytes) 6) (Err TooShort) (of_field bytes (field_numbered (slice_index bytes 0)))
