use Rattle.std.proofs.Common.{◌≡◌}
use Rattle.image_shelves.specs.Fields.{BytesPut}
use Rattle.image_shelves.specs.Layout.{image_contents}
use Rattle.ffi.specs.Copies.{copied_where, before}
use Rattle.ffi.proofs.runs.put_back.Given as goal

abbrev pub invariant-loop-row : goal.invariant-loop-row
invariant-loop-row g l =
    let k = g.F.CodedField.kind in
    let w = g.F.CodedField.width in
    let F = g.F.Field in
    let image = image_contents k w F.algebra.size F.symbol in
    record { held : image l.image ≡ copied_where (g.S.Shelf.contents l.from) (image l.fn.image) (before l.row 0); puts : BytesPut k w F.algebra.size l.fn.image l.image }

abbrev pub invariant-loop-place : goal.invariant-loop-place
invariant-loop-place g l =
    let k = g.F.CodedField.kind in
    let w = g.F.CodedField.width in
    let F = g.F.Field in
    let image = image_contents k w F.algebra.size F.symbol in
    record { held : image l.image ≡ copied_where (g.S.Shelf.contents l.from) (image l.fn.image) (before l.row l.place); puts : BytesPut k w F.algebra.size l.fn.image l.image }
