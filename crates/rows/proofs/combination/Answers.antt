use Rattle.std.proofs.Common.{◌≡◌, ℕ, min, ap, ◌∙◌, ap₂, arith}
use Rattle.std.proofs.lemmas.List.{get_or-take}
use Rattle.algebra.specs.Theorems.{coefficient}
use Rattle.rules.specs.Codes.{combination}
use Rattle.rules.specs.Views.{element_at}
use Rattle.rows.proofs.Combining.{combination_more}
use Rattle.rows.proofs.combination.Goals as goal

pub loop-j-preserved : goal.loop-j-preserved
loop-j-preserved g c i known =
    let F = g.S.Symbol.Field.algebra in
    let j = c.loop-j.j in
    let is = get_or-take c.min.result c.args.coefficients.now j 0 (omega arith) ∙ known j (omega (arith, c.min.ensures)) in
    let weighs = c.element-weight.ensures.known (omega (arith, is, F.number_bound (coefficient F i j))) ∙ ap F.element is ∙ F.element_number (coefficient F i j) in
    c.sum-sum.ensures
    ∙ ap₂ F.add (c.loop-j.invariant i known) (c.product.ensures ∙ ap₂ F.mul weighs c.symbol_at.ensures)
    ∙ combination_more F j (λ l. element_at F g.S.Symbol.Field.meaning (g.S.Shelf.contents c.args.shelf.now) l c.args.place) i

pub returns : goal.returns
returns g c i known =
    let F = g.S.Symbol.Field.algebra in
    let end : c.loop-j.j ≡ min c.args.data_rows 64 = omega (arith, c.min.ensures) in
    c.loop-j.invariant i known
    ∙ ap (λ (v : ℕ). combination F v (λ l. element_at F g.S.Symbol.Field.meaning (g.S.Shelf.contents c.args.shelf.now) l c.args.place) i) end
