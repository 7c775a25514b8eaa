-- Scripts over trays, new ones over an image's bytes.
use Rattle.std.specs.Prelude.{◌≡◌, ℕ, ◌/◌, ◌%◌, false, List, length, slice_set}
use Rattle.algebra.specs.Algebra.{Field}
use Rattle.image_shelves.specs.Fields.{bytes_stores}
use Rattle.image_shelves.specs.declared.image.ImageShelf.{ImageShelf}
use Rattle.rules.specs.States.{unread}
use Rattle.rules.specs.declared.Round.TheVariants.{Resting}
use Rattle.rules.specs.declared.Sizes.{Sizes}
use Rattle.shelves.specs.Contents.{Contents}
use Rattle.tray.specs.declared.Tray.{Tray}
use Rattle.ffi.specs.Runs.{Runs}
use Rattle.ffi.specs.declared.script.Step.{Step}

-- the sizes of a tray, in the order in which C gives them
abbrev pub sizes_in_order : ℕ → ℕ → ℕ → ℕ → Sizes
sizes_in_order k p n m = record { data_rows = k; parity_rows = p; block_length = n; card_length = m }

-- What damage to a tray over an image leaves: one byte of the image, and all else as it was. It is still the same image.
pub record Struck {X : Type 0} (before : Tray (ImageShelf X) X) (step : Step) (after : Tray (ImageShelf X) X) : Type 0 where
  pub bytes : after.shelf.bytes.now ≡ slice_set before.shelf.bytes.now step.first (step.second % 256)
  pub same : after.shelf.bytes.ghost_name ≡ before.shelf.bytes.ghost_name
  pub sizes : after.sizes ≡ before.sizes
  pub taken_in : after.taken_in ≡ before.taken_in
  pub round : after.round ≡ before.round
  pub sheet : after.sheet ≡ before.sheet

-- a tray as it is made over a shelf; below, a shelf is seen as its bytes or as its contents
abbrev pub fresh : {S X : Type 0} → Sizes → S → Tray S X
fresh sizes shelf = record { shelf = shelf; sizes = sizes; taken_in = false; round = Resting; sheet = unread }

-- the same tray over another shelf
abbrev pub reshelved : {S S' X : Type 0} → Tray S X → S' → Tray S' X
reshelved t shelf = record { shelf = shelf; sizes = t.sizes; taken_in = t.taken_in; round = t.round; sheet = t.sheet }

-- damage to a tray over bytes sets one byte of them
abbrev pub BytesStruck : {X : Type 0} → Tray (List ℕ) X → Step → Tray (List ℕ) X → Type 0
BytesStruck t step t' = t' ≡ reshelved t (slice_set t.shelf step.first (step.second % 256))

module _ {X A : Type 0} (kind width : ℕ) (image : List ℕ → Contents X) (meaning : X → A) (F : Field A) (room : ℕ) where
  -- A whole script over a new tray of these sizes over an image's bytes: what it leaves of the numbers, of the room for answers, and of the bytes. A call puts
  -- codes and marks into them, damage sets one of them, and nothing else changes any.
  pub record ImageRun (sizes : Sizes) (bytes script ns rs ns' rs' bytes' : List ℕ) : Type 0 where
    pub last : Tray (List ℕ) X
    pub runs : Runs image (bytes_stores kind width F.size) meaning F BytesStruck room script (fresh sizes bytes) ns rs (length script / 4) last ns' rs'
    pub left : bytes' ≡ last.shelf
