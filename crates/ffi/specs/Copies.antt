-- Contents copied over others, and a tray's run over lent memory.
use Rattle.std.specs.Prelude.{◌≡◌, ℕ, ◌*◌, ◌/◌, Bool, true, cond, ◌&&◌, ◌||◌, ◌==◌, nat_lt, nat_le, List, length}
use Rattle.algebra.specs.Algebra.{Field}
use Rattle.rules.specs.declared.Sizes.{Sizes}
use Rattle.image_shelves.specs.Fields.{BytesPut}
use Rattle.shelves.specs.Contents.{Contents, Cell, symbol, hole, filled, nothing}
use Rattle.tray.specs.declared.Tray.{Tray}
use Rattle.ffi.specs.Images.{fresh}
use Rattle.ffi.specs.Runs.{Runs}
use Rattle.ffi.specs.declared.script.Step.{Step}

-- a symbol goes over what stood there, a hole does not
abbrev pub overlaid : {X : Type 0} → Cell X → Cell X → Cell X
overlaid (symbol x) old = symbol x
overlaid hole old = old

module _ {X : Type 0} (from to : Contents X) where
  -- the places that a test picks, copied
  abbrev pub copied_where : (ℕ → ℕ → Bool) → Contents X
  copied_where picked = filled to.rows to.places (λ row place. cond (picked row place) (overlaid (from.at row place) (to.at row place)) (to.at row place))

  -- all places copied
  abbrev pub copied : Contents X
  copied = copied_where (λ row place. true)

-- the places before one, row after row
abbrev pub before : ℕ → ℕ → ℕ → ℕ → Bool
before row place r c = nat_lt r row || (r == row && nat_lt c place)

-- what lent memory with room for so many symbols holds of an image: all of it, or nothing where it has too few places
abbrev pub lent_contents : {X : Type 0} → ℕ → Contents X → Contents X
lent_contents room image = cond (nat_le (image.rows * image.places) room) image nothing

-- of the puts to lent memory, nothing is said but what the promises of their calls say
abbrev pub Unsaid : {S X : Type 0} → S → ℕ → ℕ → X → S → Type 0
Unsaid before row place x after = Unit {0}

-- damage does nothing to a tray over lent memory
abbrev pub Unstruck : {T : Type 0} → T → Step → T → Type 0
Unstruck t step t' = t' ≡ t

module _ {X A : Type 0} (kind width : ℕ) (image : List ℕ → Contents X) (meaning : X → A) (F : Field A) (room capacity : ℕ) where
  -- A whole script over a new tray of these sizes over lent memory with an image's contents: what it leaves of the numbers and of the room for answers, and what
  -- the image holds when the symbols are put back, by puts alone. The tray's shelf is seen as its contents.
  pub record MemoryRun (sizes : Sizes) (bytes script ns rs ns' rs' bytes' : List ℕ) : Type 0 where
    pub last : Tray (Contents X) X
    pub runs : Runs (λ c. c) (Unsaid {X = X}) meaning F Unstruck room script (fresh sizes (lent_contents capacity (image bytes))) ns rs (length script / 4) last ns' rs'
    pub put_back : image bytes' ≡ copied last.shelf (image bytes)
    pub puts : BytesPut kind width F.size bytes bytes'
