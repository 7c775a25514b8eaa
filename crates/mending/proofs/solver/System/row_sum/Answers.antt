use Rattle.std.proofs.Common.{◌≡◌, ℕ, ◌+◌, ◌-◌, ◌<◌, min, List, length, take, drop, get_or, sym, ap, ◌∙◌, ap₂, arith}
use Rattle.std.proofs.lemmas.Iterator.{YieldsList-from_slice, YieldsList-from_take, YieldsList-from_zip}
use Rattle.std.proofs.lemmas.Iterator.Adapters.{YieldsList-from_skip}
use Rattle.std.proofs.lemmas.Iterator.Consumers.{YieldsList-turn}
use Rattle.std.proofs.lemmas.List.{get_or-take, get_or-drop, get_or_default, length-take, length-drop, length_push}
use Rattle.std.proofs.lemmas.Slice.Zip.{length-zip, get_or-zip}
use Rattle.std.specs.List.{zip}
use Rattle.algebra.specs.Algebra.{minus}
use Rattle.algebra.specs.Cauchy.{row}
use Rattle.rows.specs.Weights.{element_of}
use Rattle.mending.specs.Stored.{from, stored}
use Rattle.mending.proofs.Numbers.{sum_next}
use Rattle.mending.proofs.solver.System.row_sum.Goals as goal

-- the pairs of a system's unknowns from an index on
pairs : List ℕ → List ℕ → ℕ → ℕ → List (ℕ × ℕ)
pairs columns unknowns size start = drop start (take size (zip columns unknowns))

long : (columns unknowns : List ℕ) (size start : ℕ) → length (pairs columns unknowns size start) ≡ min size (min (length columns) (length unknowns)) - start
unfolding pairs
long columns unknowns size start =
    length-drop start (take size (zip columns unknowns)) ∙ ap (λ (n : ℕ). n - start) (length-take size (zip columns unknowns) ∙ ap (min size) (length-zip columns unknowns))

turn : (columns unknowns : List ℕ) (size start at column unknown : ℕ) → (at < length (pairs columns unknowns size start)) × ((column, unknown) ≡ get_or (pairs columns unknowns size start) at (column, unknown))
    → (column ≡ get_or columns (start + at) 0) × (unknown ≡ get_or unknowns (start + at) 0)
unfolding pairs
turn columns unknowns size start at column unknown t =
    let within : (start + at < size) × (start + at < length columns) × (start + at < length unknowns) =
    (omega (arith, t.0, long columns unknowns size start), omega (arith, t.0, long columns unknowns size start), omega (arith, t.0, long columns unknowns size start)) in
    let is = t.1 ∙ get_or-drop start (take size (zip columns unknowns)) at (column, unknown) ∙ get_or-take size (zip columns unknowns) (start + at) (column, unknown) within.0
    ∙ get_or-zip columns unknowns (start + at) (column, unknown) within.1 within.2 in
    (ap (λ p. p.0) is ∙ get_or_default columns (start + at) column 0 within.1, ap (λ p. p.1) is ∙ get_or_default unknowns (start + at) unknown 0 within.2)

pub loop-column-preserved : goal.loop-column-preserved
unfolding pairs
loop-column-preserved g c =
    let F = g.F.Field.algebra in
    let system = c.args.self.now in
    let unknowns = c.args.unknowns.now in
    let start = c.args.start in
    let point = g.F.Field.meaning c.args.point in
    let at = length c.loop-column.yielded in
    let is = turn system.columns unknowns system.size start at c.in-Some.column.now c.in-Some.unknown.now
    (YieldsList-turn (YieldsList-from_skip start (YieldsList-from_take system.size (YieldsList-from_zip (YieldsList-from_slice system.columns cc) (YieldsList-from_slice unknowns cc)) cc) cc) c.loop-column.yielded c.loop-column.column-iterator c.loop-column.yielded_by _ c.next.new.self (c.in-Some.column, c.in-Some.unknown) c.in-Some.is c.next.ensures.steps) in
    c.sum-sum.ensures
    ∙ ap₂ F.add c.loop-column.invariant (c.product.ensures
    ∙ ap₂ F.mul (c.inverse-weight.ensures ∙ ap F.inv (c.difference.ensures ∙ ap (minus F point) (c.element.ensures.either ∙ ap (element_of F) is.0))) (c.element-in-loop-column.ensures.either ∙ ap (element_of F) is.1))
    ∙ sum_next F at (λ j. F.inv (minus F point (from start (stored F system.columns) j))) (from start (stored F unknowns))
    ∙ ap (λ n. row F n (from start (stored F system.columns)) (from start (stored F unknowns)) point) (sym (length_push c.loop-column.yielded (c.in-Some.column, c.in-Some.unknown)))
