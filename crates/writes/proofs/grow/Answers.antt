use Rattle.std.proofs.Common.{ap, ◌∙◌}
use Rattle.rules.specs.Views.{seen}
use Rattle.shelves.proofs.Puts.{one_put}
use Rattle.writes.specs.Steps.{cells_of}
use Rattle.writes.proofs.Growing.{put_grown, inside_fit}
use Rattle.writes.proofs.grow.Goals as goal

pub returns-clause-puts : goal.returns-clause-puts
returns-clause-puts g c = one_put g.S.Shelf.stores c.args.row c.args.place c.sum-symbol.result c.put.ensures.stored

pub returns-clause-grown : goal.returns-clause-grown
returns-clause-grown g c sizes =
    let F = g.S.Symbol.Field.algebra in
    let meaning = g.S.Symbol.Field.meaning in
    let before = g.S.Shelf.contents c.args.shelf.now in
    record {
      rows = ap (λ v. v.rows) c.put.ensures.after;
      places = ap (λ v. v.places) c.put.ensures.after;
      at = λ when r u.
          ap (λ v. cells_of meaning v r u) c.put.ensures.after
          ∙ put_grown F (seen meaning sizes before) meaning before c.args.row c.args.place (meaning c.args.change) c.sum-symbol.result
          (inside_fit F meaning sizes before when.0.fitting c.args.row c.args.place when.0.inside when.1) (when.0.filled c.args.place when.1)
          (c.sum-symbol.ensures ∙ ap (λ v. F.add v (meaning c.args.change)) c.symbol_at.ensures) r u;
    }
