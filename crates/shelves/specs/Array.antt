-- The array shelf's contents, by its fields.
use Rattle.std.specs.Prelude.{◌≡◌, ℕ, List, Option}
use Rattle.std.specs.Borrow.{MutBor}
use Rattle.shelves.specs.declared.array.ArrayShelf.{ArrayShelf}
use Rattle.shelves.specs.Contents.{Contents}
use Rattle.shelves.specs.Memory.{memory, spot_in, put_in}

module _ {A : Type 0} (s : ArrayShelf A) where
  abbrev pub array_contents : Contents A
  array_contents = memory s.grid.rows s.grid.places s.symbols.now s.marks.now

  abbrev pub array_spot : ℕ → ℕ → Option ℕ
  array_spot row place = spot_in s.grid.rows s.grid.places s.symbols.now s.marks.now row place

-- A new shelf has the sizes and the memory that it was given, with all that stood there.
pub record Lent {A : Type 0} (rows places : ℕ) (symbols : MutBor (List A)) (marks : MutBor (List ℕ)) (s : ArrayShelf A) : Type 0 where
  pub same_rows : s.grid.rows ≡ rows
  pub same_places : s.grid.places ≡ places
  pub held_symbols : s.symbols.now ≡ symbols.now
  pub held_marks : s.marks.now ≡ marks.now
  pub same_symbols : s.symbols.ghost_name ≡ symbols.ghost_name
  pub same_marks : s.marks.ghost_name ≡ marks.ghost_name

-- What the lent memory holds after a put: one symbol and its mark, and all else as it stood. It is still the same memory.
pub record Stored {A : Type 0} (s : ArrayShelf A) (row place : ℕ) (x : A) (after : ArrayShelf A) : Type 0 where
  pub symbols : after.symbols.now ≡ put_in (array_spot s row place) x s.symbols.now
  pub marks : after.marks.now ≡ put_in (array_spot s row place) 1 s.marks.now
  pub same_symbols : after.symbols.ghost_name ≡ s.symbols.ghost_name
  pub same_marks : after.marks.ghost_name ≡ s.marks.ghost_name
