use Rattle.std.proofs.Common.{◌/◌, ℕ, List, length, ap, ◌∙◌, subst}
use Rattle.std.specs.Borrow.{MutBor}
use Rattle.image_shelves.specs.Layout.{image_contents}
use Rattle.image_shelves.specs.declared.image.ImageShelf.{ImageShelf}
use Rattle.shelves.specs.Contents.{Contents}
use Rattle.tray.specs.declared.Tray.{Tray}
use Rattle.ffi.specs.Images.{BytesStruck, reshelved}
use Rattle.image_shelves.specs.Fields.{bytes_stores}
use Rattle.ffi.specs.Runs.{Runs}
use Rattle.ffi.proofs.Shelving.{runs_bare, runs_keep, fresh_as, struck_bytes, struck_same}
use Rattle.ffi.proofs.runs.over_image.Goals as goal

pub returns-clause-run : goal.returns-clause-run
returns-clause-run g c =
    let X = g.row.F.Denot in
    let F = g.F.Field in
    let k = g.F.CodedField.kind in
    let w = g.F.CodedField.width in
    let image : List ℕ → Contents X = image_contents k w F.algebra.size F.symbol in
    let desk = c.args.desk.now in
    let last = c.run.new.tray in
    let begun =
    fresh_as (λ (s : ImageShelf X). image s.bytes.now) F.meaning c.args.sizes c.over-tray.result _ _ c.args.image.now c.over-tray.ensures.state
    (ap (λ (s : ImageShelf X). s.bytes.now) c.over-tray.ensures.shelf ∙ c.over.ensures.lent.bytes) in
    record {
      last = reshelved last last.shelf.bytes.now;
      runs =
          subst (λ (t : Tray (List ℕ) X). Runs image (bytes_stores k w F.algebra.size) F.meaning F.algebra BytesStruck (length desk.symbols.now) c.args.script.now t desk.numbers.now desk.answers.now (length c.args.script.now / 4) (reshelved last last.shelf.bytes.now) c.run.new.self.numbers.now c.run.new.self.answers.now)
          begun
          (runs_bare (λ (s : ImageShelf X). s.bytes.now) image (λ x. F.algebra.number (F.meaning x)) _ (bytes_stores k w F.algebra.size) F.meaning F.algebra _ BytesStruck (length desk.symbols.now)
          (λ s row place x after d. (F.algebra.number_bound (F.meaning x), d.bytes)) (λ t step t' d. struck_bytes t step t' d.shown.now d.left.now d.shows d.leaves d.met.1) c.run.ensures.runs);
      left = ap (λ (b : MutBor (List ℕ)). b.now) c.into_bytes.ensures ∙ ap (λ (s : ImageShelf X). s.bytes.now) c.into_shelf.ensures;
    }

pub returns-clause-same_image : goal.returns-clause-same_image
returns-clause-same_image g c =
    let X = g.row.F.Denot in
    let F = g.F.Field in
    let image : List ℕ → Contents X = image_contents g.F.CodedField.kind g.F.CodedField.width F.algebra.size F.symbol in
    ap (λ (b : MutBor (List ℕ)). b.ghost_name) c.into_bytes.ensures ∙ ap (λ (s : ImageShelf X). s.bytes.ghost_name) c.into_shelf.ensures
    ∙ runs_keep (λ (s : ImageShelf X). image s.bytes.now) _ F.meaning F.algebra _ (length c.args.desk.now.symbols.now) (λ (s : ImageShelf X). s.bytes.ghost_name)
    (λ s row place x after d. d.same) (λ t step t' d. struck_same t step t' d.shown.now d.left.now d.shows d.leaves d.met.1) c.run.ensures.runs
    ∙ ap (λ (s : ImageShelf X). s.bytes.ghost_name) c.over-tray.ensures.shelf ∙ c.over.ensures.lent.same
