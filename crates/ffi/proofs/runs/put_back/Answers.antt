use Rattle.std.proofs.Common.{◌≡◌, ℕ, List, sym, ap, ◌∙◌, arith}
use Rattle.shelves.specs.Contents.{Contents, symbol_of, after_put}
use Rattle.image_shelves.specs.Layout.{image_contents}
use Rattle.image_shelves.proofs.Puts.{bytes_unput, bytes_put_more}
use Rattle.ffi.specs.Copies.{copied_where, before}
use Rattle.ffi.proofs.Copying.{none_copied, put_copied, skip_copied, row_copied, all_copied, cell_symbol, cell_hole}
use Rattle.ffi.proofs.runs.put_back.Goals as goal
use Rattle.ffi.proofs.runs.put_back.Goals.{in-Some, in_default}

pub loop-row-init : goal.loop-row-init
loop-row-init g c =
    let image : List ℕ → Contents g.row.F.Denot = image_contents g.F.CodedField.kind g.F.CodedField.width g.F.Field.algebra.size g.F.Field.symbol in
    record { held = none_copied (g.S.Shelf.contents c.args.from.now) (image c.args.image.now); puts = bytes_unput _ _ _ c.args.image.now }

pub loop-place-preserved : goal.loop-place-preserved
loop-place-preserved g c =
    let image : List ℕ → Contents g.row.F.Denot = image_contents g.F.CodedField.kind g.F.CodedField.width g.F.Field.algebra.size g.F.Field.symbol in
    let from = g.S.Shelf.contents c.args.from.now in
    let to = image c.args.image.now in
    let row = c.loop-row.row in
    let place = c.loop-place.place in
    let got = c.symbol.ensures ∙ ap symbol_of c.get.ensures in
    elim c.match-symbol.branch [
      | in-Some w ↦ record {
        held =
            ap image w.image-is ∙ (rw (ap g.F.Field.symbol (sym w.code_number.ensures.value) ∙ w.code_number.ensures.own) at w.image_put.ensures.after) ∙ ap (λ held. after_put held row place w.in-Some.symbol) c.loop-place.invariant.held
            ∙ put_copied from to row place w.in-Some.symbol (cell_symbol from row place w.in-Some.symbol (sym got ∙ w.in-Some.is));
        puts = rw w.image-is (bytes_put_more _ _ _ c.loop-place.invariant.puts row place _ (g.F.Field.algebra.number_bound (g.F.Field.meaning w.in-Some.symbol)) w.image_put.ensures.stored);
      }
      | in_default w ↦ record {
        held = ap image w.image-is ∙ c.loop-place.invariant.held ∙ skip_copied from to row place (cell_hole from row place (sym got ∙ w.in_default.is));
        puts = rw w.image-is c.loop-place.invariant.puts;
      }
    ]

pub loop-row-preserved : goal.loop-row-preserved
loop-row-preserved g c =
    let image : List ℕ → Contents g.row.F.Denot = image_contents g.F.CodedField.kind g.F.CodedField.width g.F.Field.algebra.size g.F.Field.symbol in
    let from = g.S.Shelf.contents c.args.from.now in
    let to = image c.args.image.now in
    let row = c.loop-row.row in
    let end : c.loop-place.place ≡ from.places = omega (arith, c.loop-place-test.false, c.loop-place.auto.place-end, c.places-places.ensures) in
    record { held = c.loop-place.invariant.held ∙ ap (λ (v : ℕ). copied_where from to (before row v)) end ∙ row_copied from to row; puts = c.loop-place.invariant.puts }

pub returns-clause-contents : goal.returns-clause-contents
returns-clause-contents g c =
    let image : List ℕ → Contents g.row.F.Denot = image_contents g.F.CodedField.kind g.F.CodedField.width g.F.Field.algebra.size g.F.Field.symbol in
    let from = g.S.Shelf.contents c.args.from.now in
    let to = image c.args.image.now in
    let end : c.loop-row.row ≡ from.rows = omega (arith, c.loop-row-test.false, c.loop-row.auto.row-end, c.rows-row-end.ensures) in
    c.loop-row.invariant.held ∙ ap (λ (v : ℕ). copied_where from to (before v 0)) end ∙ all_copied from to
