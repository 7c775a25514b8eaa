use Rattle.std.proofs.Common.{◌/◌, ℕ, List, length, ap, ◌∙◌, subst}
use Rattle.image_shelves.specs.Layout.{image_contents}
use Rattle.shelves.specs.Array.{array_contents}
use Rattle.shelves.specs.Contents.{Contents}
use Rattle.shelves.specs.declared.array.ArrayShelf.{ArrayShelf}
use Rattle.tray.specs.declared.Tray.{Tray}
use Rattle.ffi.specs.Copies.{copied, lent_contents, Unsaid, Unstruck}
use Rattle.ffi.specs.Images.{reshelved}
use Rattle.ffi.specs.Runs.{Runs}
use Rattle.ffi.proofs.Shelving.{runs_bare, fresh_as, unstruck}
use Rattle.ffi.proofs.runs.over_memory.Goals as goal

pub returns-clause-run : goal.returns-clause-run
returns-clause-run g c capacity least =
    let X = g.row.F.Denot in
    let F = g.F.Field in
    let image : List ℕ → Contents X = image_contents g.F.CodedField.kind g.F.CodedField.width F.algebra.size F.symbol in
    let desk = c.args.desk.now in
    let last = c.run.new.tray in
    let begun =
    fresh_as (array_contents {A = X}) F.meaning c.args.sizes c.over-tray.result _ _ (lent_contents capacity (image c.args.image.now)) c.over-tray.ensures.state
    (ap (array_contents {A = X}) c.over-tray.ensures.shelf ∙ c.in_memory.ensures.contents capacity least) in
    record {
      last = reshelved last (array_contents last.shelf);
      runs =
          subst (λ (t : Tray (Contents X) X). Runs (λ (held : Contents X). held) (Unsaid {X = X}) F.meaning F.algebra Unstruck (length desk.symbols.now) c.args.script.now t desk.numbers.now desk.answers.now (length c.args.script.now / 4) (reshelved last (array_contents last.shelf)) c.run.new.self.numbers.now c.run.new.self.answers.now)
          begun
          (runs_bare (array_contents {A = X}) (λ (held : Contents X). held) (λ (x : X). x) _ (Unsaid {X = X}) F.meaning F.algebra _ Unstruck (length desk.symbols.now)
          (λ s row place x after d. tt) (λ t step t' d. unstruck array_contents t t' d.shown.now d.left.now d.shows d.leaves d.met.1) c.run.ensures.runs);
      put_back =
          c.put_back.ensures.contents
          ∙ ap (λ (bytes : List ℕ). copied (array_contents c.into_shelf.result) (image bytes)) c.in_memory.ensures.same
          ∙ ap (λ (s : ArrayShelf X). copied (array_contents s) (image c.args.image.now)) c.into_shelf.ensures;
      puts = rw c.in_memory.ensures.same at c.put_back.ensures.puts;
    }
