use Rattle.std.proofs.Common.{◌≡◌, ℕ, ◌+◌, Bool, true, not, sym, ap, ◌∙◌, arith, below_more}
use Rattle.rules.proofs.Loops.{lowest_pair_at, lowest_pair_nowhere}
use Rattle.rules.specs.States.{misfit}
use Rattle.rules.specs.Views.{seen}
use Rattle.rows.proofs.Combining.{misfit_is, combined_few}
use Rattle.rows.proofs.Group.first_misfit.Goals as goal

pub loop-t-preserved : goal.loop-t-preserved
loop-t-preserved g c =
    let F = g.S.Symbol.Field.algebra in
    let meaning = g.S.Symbol.Field.meaning in
    let held = g.S.Shelf.contents c.args.self.now.shelf.now in (
      c.loop-t.invariant.0,
      λ room high few small enough.
          below_more _ _ (c.loop-t.invariant.1 room high few small enough)
          (misfit_is F meaning c.args.self.now.sizes held c.rows.i c.args.start c.loop-t.t c.saturating_add-place.result c.parity_row.result _ _ c.equals.result
          (omega (arith, c.saturating_add-place.ensures)) (omega (arith, c.parity_row.ensures))
          (combined_few F _ _ _ c.rows.i small (c.coefficient_row-coefficients.ensures.known (omega arith) small enough) (c.combination-fitting.ensures c.rows.i)) c.symbol_at.ensures c.equals.ensures
          ∙ ap not c.if-not-equals.false),
    )

pub returns-after-rows : goal.returns-after-rows
returns-after-rows g c room high few small enough =
    let test : ℕ → ℕ → Bool = λ i t. misfit g.S.Symbol.Field.algebra (seen g.S.Symbol.Field.meaning c.args.self.now.sizes (g.S.Shelf.contents c.args.self.now.shelf.now)) i (c.args.start + t) in
    c.rows.invariant.0 ∙ sym (lowest_pair_nowhere c.args.self.now.sizes.parity_rows c.args.places test (λ r t h l. c.rows.invariant.1 room high few small enough r t (omega arith) l))

pub returns-then-not-equals : goal.returns-then-not-equals
returns-then-not-equals g c room high few small enough =
    let F = g.S.Symbol.Field.algebra in
    let meaning = g.S.Symbol.Field.meaning in
    let held = g.S.Shelf.contents c.args.self.now.shelf.now in
    let test : ℕ → ℕ → Bool = λ i t. misfit F (seen meaning c.args.self.now.sizes held) i (c.args.start + t) in
    let hit : test c.rows.i c.loop-t.t ≡ true =
    misfit_is F meaning c.args.self.now.sizes held c.rows.i c.args.start c.loop-t.t c.saturating_add-place.result c.parity_row.result _ _ c.equals.result
    (omega (arith, c.saturating_add-place.ensures)) (omega (arith, c.parity_row.ensures))
    (combined_few F _ _ _ c.rows.i small (c.coefficient_row-coefficients.ensures.known (omega arith) small enough) (c.combination-fitting.ensures c.rows.i)) c.symbol_at.ensures c.equals.ensures
    ∙ ap not c.if-not-equals.true in
    sym (lowest_pair_at c.args.self.now.sizes.parity_rows c.args.places test c.rows.i c.loop-t.t c.rows-test.true c.loop-t-test.true hit (c.loop-t.invariant.1 room high few small enough) (c.rows.invariant.1 room high few small enough))
