use Rattle.std.proofs.Common.{◌≡◌, ◌*◌, ◌<◌, ℕ, min, length, take, get_or, slice_index, sym, ap, ap₂, ◌∙◌, inl, inr, arith, rules, length-take}
use Rattle.std.proofs.lemmas.Bool.{cases_lt}
use Rattle.std.proofs.lemmas.List.{places, get_or_past, take_all}
use Rattle.image_shelves.specs.Layout.{image_contents}
use Rattle.shelves.specs.Contents.{Contents}
use Rattle.shelves.specs.Memory.{memory}
use Rattle.ffi.specs.Copies.{copied, lent_contents}
use Rattle.ffi.proofs.Lending.{lent_is, room_enough}
use Rattle.ffi.proofs.runs.lent.Goals as goal

pub returns : goal.returns
returns g c capacity least =
    let image : Contents g.row.F.Denot = image_contents g.F.CodedField.kind g.F.CodedField.width g.F.Field.algebra.size g.F.Field.symbol c.args.image.now.bytes.now in
    let symbols = c.args.memory.symbols.now in
    let marks = c.fill.new.self in
    let size = c.min-size.result in
    let long : length marks ≡ size = omega (arith, c.fill.ensures.len, length-take size c.args.memory.marks.now, c.min-size.ensures) in
    let blank : (i : ℕ) → i < length marks → slice_index marks i ≡ 0 = search (rules, places) in
    let none = λ (i : ℕ). let is : get_or marks i 0 ≡ 0 = elim (cases_lt i (length marks)) [ inl h ↦ blank i h | inr h ↦ get_or_past marks i 0 h ] in is in
    let area : c.rows-rows.result * c.places-places.result ≡ image.rows * image.places = ap₂ (λ (a b : ℕ). a * b) c.rows-rows.ensures c.places-places.ensures in
    let enough : size ≡ min (image.rows * image.places) capacity = omega (arith, area, c.saturating_mul.ensures, c.min.ensures, c.min-size.ensures, least) in
    let room : min (length symbols) (length marks) ≡ size = omega (arith, long, enough, least) in
    let sized : size ≡ min (image.rows * image.places) (min (length symbols) (length marks)) = omega (arith, room, enough) in
    c.copy.ensures
    ∙ ap (copied image) (c.over-shelf.ensures.contents ∙ ap₂ (λ (r p : ℕ). memory r p (take size symbols) marks) c.rows-rows.ensures c.places-places.ensures)
    ∙ ap (λ ms. copied image (memory image.rows image.places (take size symbols) ms)) (sym (take_all size marks (omega (arith, long))))
    ∙ lent_is image symbols marks size none sized
    ∙ ap (λ (n : ℕ). lent_contents n image) room
    ∙ room_enough image size capacity enough
