use Rattle.std.proofs.Common.{◌≡◌, ℕ, ◌+◌, ◌-◌, ◌^◌, Option, min, not, ap, ◌∙◌, arith, rules, tests}
use Rattle.std.specs.Bool.{then_some}
use Rattle.rules.specs.States.{audited, sound}
use Rattle.rules.specs.Views.{seen}
use Rattle.rules.specs.declared.Verdict.{Verdict}
use Rattle.rules.proofs.Mapped.{lowest_mapped}
use Rattle.rows.proofs.Group.first_unsound_parity.Goals as goal

pub returns : goal.returns
returns g c high room =
    let F = g.S.Symbol.Field.algebra in
    let sizes = c.args.self.now.sizes in
    let s = seen g.S.Symbol.Field.meaning sizes (g.S.Shelf.contents c.args.self.now.shelf.now) in
    let answer : ℕ → ℕ → Option (ℕ × Verdict) = λ i row. then_some (not (sound F s row)) (i, audited F s row) in
    lowest_mapped sizes.parity_rows _ c.find_map.result (λ i. not (sound F s (sizes.data_rows + i))) (λ i. (i, audited F s (sizes.data_rows + i))) c.find_map.ensures.runs
    (λ i o q call. (
      search (rules, tests),
      λ l. let at : o ≡ answer i (min (sizes.data_rows + i) (2 ^ 64 - 1)) = search (rules, tests) in at ∙ ap (answer i) (omega (arith, high, l)),
    ))
