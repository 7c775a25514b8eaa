use Rattle.std.proofs.Common.{◌≡◌, ℕ, ◌+◌, ◌-◌, ◌^◌, ◌<◌, get_or, min, ap, ◌∙◌, arith, rules}
use Rattle.rows.specs.Weights.{element_of}
use Rattle.mending.specs.Stored.{stored}
use Rattle.mending.specs.Plans.{flag, share}
use Rattle.mending.proofs.Mapping.{mapped}
use Rattle.mending.proofs.Numbers.{element_small, element_numbered}
use Rattle.mending.proofs.Planning.{solved_by}
use Rattle.mending.proofs.plans.Choice.working.Goals as goal

pub returns : goal.returns
returns g c fit h square =
    let F = g.F.Field.algebra in
    let choice = c.args.self.now in
    let used : ℕ → ℕ = λ a. get_or choice.used.at a 0 in
    let lost : ℕ → ℕ = λ b. get_or choice.lost.at b 0 in
    let shares : ℕ → _ = λ i. share F choice.sizes.data_rows (flag choice.damage) i c.args.row in
    let few = choice.lost.few in
    let column : (j : ℕ) → j < choice.lost.count → get_or c.map.result j 0 ≡ min (lost j + 4) (2 ^ 64 - 1) =
    λ j h. mapped _ _ (λ x y. y ≡ min (x + 4) (2 ^ 64 - 1)) (λ x y q e. (search rules, search rules)) 0 0 choice.lost.at c.map.result 4 0 c.map.ensures.items.each j (omega arith) (omega arith) in
    let right : (i : ℕ) → i < choice.lost.count → stored F c.map-right.result i ≡ shares (used i) =
    λ i h. element_numbered F _ _ (mapped _ _ (λ x y. x < 4 → F.number (shares x) ≡ y) (λ x y q e. (search rules, λ l. search rules)) 0 0 choice.used.at c.map-right.result 4 0
    c.map-right.ensures.items.each i (omega arith) (omega arith) (square.rows_below i h)) in
    solved_by F choice.sizes.data_rows choice.lost.count used lost square (stored F choice.used.at) (stored F c.map.result) (stored F c.map-right.result) (λ a. shares (used a)) (stored F c.solution.result)
    (λ i h. element_small F (used i) (omega (arith, square.rows_below i h, square.room)))
    (λ j h. let e : get_or c.map.result j 0 ≡ 4 + lost j = omega (arith, column j h, square.columns_below j h, fit.few) in ap (element_of F) e ∙ element_small F (4 + lost j) (omega (arith, square.columns_below j h, square.room)))
    right c.solution.ensures
