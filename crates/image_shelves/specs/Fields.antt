-- Images of the two fields.
use Rattle.std.specs.Prelude.{◌≡◌, ℕ, ◌<◌, List}
use Rattle.std.specs.Borrow.{MutBor}
use Rattle.byte_field.specs.declared.Byte.{Byte}
use Rattle.byte_field.specs.Meaning.{byte_symbol}
use Rattle.counter_field.specs.declared.Counter.{Counter}
use Rattle.counter_field.specs.Meaning.{counter_symbol}
use Rattle.shelves.specs.Contents.{Contents}
use Rattle.shelves.specs.Puts.{ByPuts}
use Rattle.image_shelves.specs.Layout.{image_contents, image_spot, put_at}
use Rattle.image_shelves.specs.declared.image.ImageShelf.{ImageShelf}

-- field number 1, codes of one byte, 256 elements
abbrev pub byte_image : List ℕ → Contents Byte
byte_image = image_contents 1 1 256 byte_symbol

-- field number 2, codes of three bytes, 65,537 elements
abbrev pub counter_image : List ℕ → Contents Counter
counter_image = image_contents 2 3 65537 counter_symbol

-- A new shelf has the bytes that it was given, with all that stood there.
pub record Lent (given held : MutBor (List ℕ)) : Type 0 where
  pub bytes : held.now ≡ given.now
  pub same : held.ghost_name ≡ given.ghost_name

-- What lent bytes hold after a put of the symbol of a number: its mark and its code, and all else as it stood, the head included.
-- They are still the same bytes of memory.
pub record Stored (kind width : ℕ) (before : MutBor (List ℕ)) (row place v : ℕ) (after : MutBor (List ℕ)) : Type 0 where
  pub bytes : after.now ≡ put_at width (image_spot kind width before.now row place) v before.now
  pub same : after.ghost_name ≡ before.ghost_name

-- A put to an image's shelf, of a field that gives each symbol a number.
abbrev pub image_stores : {X : Type 0} → (kind width : ℕ) → (X → ℕ) → ImageShelf X → ℕ → ℕ → X → ImageShelf X → Type 0
image_stores kind width number before row place x after = Stored kind width before.bytes row place (number x) after.bytes

-- the same, of bytes and the number of a symbol, in a field of so many elements
abbrev pub bytes_stores : (kind width size : ℕ) → List ℕ → ℕ → ℕ → ℕ → List ℕ → Type 0
bytes_stores kind width size before row place v after = (v < size) × (after ≡ put_at width (image_spot kind width before row place) v before)

-- Bytes as puts leave them, and nothing but puts.
abbrev pub BytesPut : (kind width size : ℕ) → List ℕ → List ℕ → Type 0
BytesPut kind width size = ByPuts (bytes_stores kind width size)
