use Rattle.std.proofs.Common.{◌<◌, ◌^◌, ℕ, List, length, ap, ◌∙◌, arith}
use Rattle.std.proofs.lemmas.List.{length-map}
use Rattle.std.specs.Borrow.{MutBor}
use Rattle.std.specs.Prelude.{map}
use Rattle.image_shelves.specs.Layout.{image_contents}
use Rattle.image_shelves.specs.declared.image.ImageShelf.{ImageShelf}
use Rattle.rules.specs.Views.{seen}
use Rattle.shelves.specs.Contents.{Contents}
use Rattle.ffi.specs.declared.recorded.Recorded.{Recorded}
use Rattle.ffi.proofs.Putting.{puts_of, made_at, same_image, same_room}
use Rattle.ffi.proofs.runs.record_puts.Goals as goal

pub returns-clause-puts : goal.returns-clause-puts
returns-clause-puts g c =
    let X = g.row.F.Denot in
    let F = g.F.Field in
    let k = g.F.CodedField.kind in
    let w = g.F.CodedField.width in
    let image : List ℕ → Contents X = image_contents g.F.CodedField.kind g.F.CodedField.width F.algebra.size F.symbol in
    let short : length c.args.puts.now < 2 ^ 64 = omega arith in
    let bytes = ap (λ (s : ImageShelf X). s.bytes.now) c.over-2.ensures.inner ∙ c.over.ensures.lent.bytes in
    puts_of g.F.CodedField.kind g.F.CodedField.width image F.meaning F.algebra c.args.sizes c.args.row c.args.start (map F.meaning c.args.symbols.now) c.args.image.now c.args.puts.now
    c.into_parts-shelf.result.2 c.into_bytes.result.now c.into_parts-shelf.result.1.now c.over-tray.result c.intake.new.self c.write.new.self _ _
    (c.over-tray.ensures.state ∙ ap (λ (v : List ℕ). seen F.meaning c.args.sizes (image v)) bytes)
    (ap (λ (s : Recorded (ImageShelf X)). s.inner.bytes.now) c.over-tray.ensures.shelf ∙ bytes)
    (ap (λ (s : Recorded (ImageShelf X)). s.puts.now) c.over-tray.ensures.shelf ∙ c.over-2.ensures.puts)
    (ap (λ (s : Recorded (ImageShelf X)). s.count) c.over-tray.ensures.shelf ∙ c.over-2.ensures.count)
    short c.intake.ensures.promise (made_at k w image F.meaning F.algebra c.over-tray.result c.intake.new.self _ c.intake.result c.intake.ensures.order c.intake.ensures.refused)
    c.write.ensures.promise (length c.args.symbols.now) (length-map c.args.symbols.now F.meaning) (made_at k w image F.meaning F.algebra c.intake.new.self c.write.new.self _ c.write.result c.write.ensures.order c.write.ensures.refused)
    (c.into_parts-shelf.ensures.count ∙ ap (λ (s : Recorded (ImageShelf X)). s.count) c.into_shelf.ensures)
    (ap (λ (b : MutBor (List ℕ)). b.now) c.into_bytes.ensures ∙ ap (λ (s : ImageShelf X). s.bytes.now) c.into_parts-shelf.ensures.inner ∙ ap (λ (s : Recorded (ImageShelf X)). s.inner.bytes.now) c.into_shelf.ensures)
    (ap (λ (b : MutBor (List ℕ)). b.now) c.into_parts-shelf.ensures.puts ∙ ap (λ (s : Recorded (ImageShelf X)). s.puts.now) c.into_shelf.ensures)

pub returns-clause-same_image : goal.returns-clause-same_image
returns-clause-same_image g c =
    let X = g.row.F.Denot in
    let F = g.F.Field in
    let k = g.F.CodedField.kind in
    let w = g.F.CodedField.width in
    let image : List ℕ → Contents X = image_contents k w F.algebra.size F.symbol in
    ap (λ (b : MutBor (List ℕ)). b.ghost_name) c.into_bytes.ensures ∙ ap (λ (s : ImageShelf X). s.bytes.ghost_name) c.into_parts-shelf.ensures.inner
    ∙ ap (λ (s : Recorded (ImageShelf X)). s.inner.bytes.ghost_name) c.into_shelf.ensures
    ∙ same_image k w image F.meaning F.algebra c.intake.ensures.puts c.write.ensures.puts
    ∙ ap (λ (s : Recorded (ImageShelf X)). s.inner.bytes.ghost_name) c.over-tray.ensures.shelf ∙ ap (λ (s : ImageShelf X). s.bytes.ghost_name) c.over-2.ensures.inner ∙ c.over.ensures.lent.same

pub returns-clause-same_room : goal.returns-clause-same_room
returns-clause-same_room g c =
    let X = g.row.F.Denot in
    let F = g.F.Field in
    let k = g.F.CodedField.kind in
    let w = g.F.CodedField.width in
    let image : List ℕ → Contents X = image_contents k w F.algebra.size F.symbol in
    ap (λ (b : MutBor (List ℕ)). b.ghost_name) c.into_parts-shelf.ensures.puts ∙ ap (λ (s : Recorded (ImageShelf X)). s.puts.ghost_name) c.into_shelf.ensures
    ∙ same_room k w image F.meaning F.algebra c.intake.ensures.puts c.write.ensures.puts
    ∙ ap (λ (s : Recorded (ImageShelf X)). s.puts.ghost_name) c.over-tray.ensures.shelf ∙ c.over-2.ensures.same
