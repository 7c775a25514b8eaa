use Rattle.std.proofs.Common.{◌≡◌, ℕ, ◌+◌, ◌<◌, List, length, take, get_or, sym, ap, ◌∙◌, ap₂, arith}
use Rattle.std.proofs.lemmas.Iterator.{YieldsList-from_slice, YieldsList-from_take}
use Rattle.std.proofs.lemmas.Iterator.Consumers.{YieldsList-from_enumerate, YieldsList-turn, YieldsList-end}
use Rattle.std.proofs.lemmas.List.{get_or-take, get_or_default, length-take, length_push}
use Rattle.std.proofs.lemmas.List.FromFn.{get_or-enumerate_from, length-enumerate_from}
use Rattle.std.specs.List.{enumerate_from}
use Rattle.rows.specs.Weights.{element_of}
use Rattle.rules.specs.Views.{element_at}
use Rattle.mending.specs.Stored.{stored}
use Rattle.mending.specs.Puts.{weighted_sum}
use Rattle.mending.proofs.Numbers.{same_number, sum_next, sum_passed, sum_kept}
use Rattle.mending.proofs.WorkedRow.symbol.Goals as goal

-- a turn's number stands where its index says, and that is how many turns there were before
turn : (numbers : List ℕ) (rows at source number : ℕ) → (at < length (take rows (enumerate_from 0 numbers))) × ((source, number) ≡ get_or (take rows (enumerate_from 0 numbers)) at (source, number))
    → (source ≡ at) × (number ≡ get_or numbers at 0)
turn numbers rows at source number t =
    let within : (at < rows) × (at < length numbers) = (omega (arith, t.0, length-take rows (enumerate_from 0 numbers)), omega (arith, t.0, length-take rows (enumerate_from 0 numbers), length-enumerate_from 0 numbers)) in
    let is = t.1 ∙ get_or-take rows (enumerate_from 0 numbers) at (source, number) within.0 ∙ get_or-enumerate_from 0 numbers at (source, number) within.1 in
    (ap (λ p. p.0) is ∙ (let e : 0 + at ≡ at = omega arith in e), ap (λ p. p.1) is ∙ get_or_default numbers at number 0 within.1)

pub loop-source-preserved-then-not-equals : goal.loop-source-preserved-then-not-equals
loop-source-preserved-then-not-equals g c =
    let F = g.S.Symbol.Field.algebra in
    let meaning = g.S.Symbol.Field.meaning in
    let held = g.S.Shelf.contents c.args.group.now.shelf.now in
    let place = c.args.place in
    let numbers = c.args.self.now.weights in
    let at = length c.loop-source.yielded in
    let is = turn numbers c.rows.result at c.in-Some.source c.in-Some.number.now (YieldsList-turn (YieldsList-from_take c.rows.result (YieldsList-from_enumerate (YieldsList-from_slice numbers cc) cc) cc) c.loop-source.yielded _ c.loop-source.yielded_by _ _ (c.in-Some.source, c.in-Some.number) c.in-Some.is c.next.ensures.steps) in
    c.sum-sum.ensures ∙ ap₂ F.add c.loop-source.invariant (c.product.ensures ∙ ap₂ F.mul (c.element-weight.ensures.either ∙ ap (element_of F) is.1) (c.symbol_at.ensures ∙ ap (λ (r : ℕ). element_at F meaning held r place) is.0))
    ∙ sum_next F at (stored F numbers) (λ r. element_at F meaning held r place)
    ∙ ap (λ n. weighted_sum F meaning held (stored F numbers) n place) (sym (length_push c.loop-source.yielded (c.in-Some.source, c.in-Some.number)))

pub loop-source-preserved : goal.loop-source-preserved
loop-source-preserved g c =
    let F = g.S.Symbol.Field.algebra in
    let meaning = g.S.Symbol.Field.meaning in
    let held = g.S.Shelf.contents c.args.group.now.shelf.now in
    let place = c.args.place in
    let numbers = c.args.self.now.weights in
    let at = length c.loop-source.yielded in
    let is = turn numbers c.rows.result at c.in-Some.source c.in-Some.number.now (YieldsList-turn (YieldsList-from_take c.rows.result (YieldsList-from_enumerate (YieldsList-from_slice numbers cc) cc) cc) c.loop-source.yielded _ c.loop-source.yielded_by _ _ (c.in-Some.source, c.in-Some.number) c.in-Some.is c.next.ensures.steps) in
    c.loop-source.invariant
    ∙ sum_passed F at (stored F numbers) (λ r. element_at F meaning held r place) (ap (element_of F) (sym is.1) ∙ sym c.element-weight.ensures.either ∙ same_number F _ _ (sym c.equals.ensures ∙ c.if-not-equals.false) ∙ c.zero.ensures)
    ∙ ap (λ n. weighted_sum F meaning held (stored F numbers) n place) (sym (length_push c.loop-source.yielded (c.in-Some.source, c.in-Some.number)))

pub returns : goal.returns
returns g c =
    let F = g.S.Symbol.Field.algebra in
    let sizes = c.args.group.now.sizes in
    let numbers = c.args.self.now.weights in
    let end = YieldsList-end (YieldsList-from_take c.rows.result (YieldsList-from_enumerate (YieldsList-from_slice numbers cc) cc) cc) c.loop-source.yielded _ c.loop-source.yielded_by _ _ c.in-None.is c.next.ensures.steps in
    let turns = end.1 ∙ length-take c.rows.result (enumerate_from 0 numbers) in
    c.loop-source.invariant
    ∙ sum_kept F numbers (λ r. element_at F g.S.Symbol.Field.meaning (g.S.Shelf.contents c.args.group.now.shelf.now) r c.args.place) (length c.loop-source.yielded) (sizes.data_rows + sizes.parity_rows)
    (omega (arith, turns, c.rows.ensures)) (λ more. omega (arith, turns, c.rows.ensures, length-enumerate_from 0 numbers))
