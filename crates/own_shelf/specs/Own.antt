-- The contents of a shelf over memory of its own, by its fields; and a place that is lost.
use Rattle.std.specs.Prelude.{ℕ}
use Rattle.shelves.specs.Contents.{Contents, hole, with_cell}
use Rattle.shelves.specs.Memory.{memory}
use Rattle.own_shelf.specs.declared.OwnShelf.{OwnShelf}

module _ {A : Type 0} (s : OwnShelf A) where
  abbrev pub own_contents : Contents A
  own_contents = memory s.grid.rows s.grid.places s.symbols.items s.marks.items

-- the same contents with a hole at one place
abbrev pub with_hole : {A : Type 0} → Contents A → ℕ → ℕ → Contents A
with_hole s row place = with_cell s row place hole
