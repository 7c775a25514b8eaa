use Rattle.std.proofs.Common.{◌≡◌, ℕ, ◌+◌, ◌≤◌, true, sym, ap, ◌∙◌, arith}
use Rattle.rules.specs.Codes.{differ}
use Rattle.rules.specs.Search.{lowest}
use Rattle.rules.specs.States.{sound}
use Rattle.rules.specs.Views.{element_at}
use Rattle.rules.proofs.Rows.{fitting}
use Rattle.rows.specs.Shown.{shown}
use Rattle.mending.specs.Plans.{flag, weight_of}
use Rattle.mending.specs.Puts.{weighted_sum}
use Rattle.mending.specs.Stored.{stored}
use Rattle.mending.proofs.Stating.{flag_is, weights_for, misfit_none, misfit_used_for, misfit_found}
use Rattle.mending.proofs.row_misfit.Goals as goal
use Rattle.mending.proofs.row_misfit.Goals.{then-not-is_sound-via-then-not-is_sound, then-not-is_sound-via-else-not-is_sound+then-is_used}

pub returns-then-not-is_sound : goal.returns-then-not-is_sound
returns-then-not-is_sound g c ready h blocks w =
    let F = g.S.Symbol.Field.algebra in
    let s = shown g.S.Shelf.contents g.S.Symbol.Field.meaning c.args.group.now in
    let damage = c.args.damage.now in
    let plan = c.args.plan.now in
    let sizes = c.args.group.now.sizes in
    let f = fitting F s ready.fit in
    let at : c.parity_row-row.result ≡ sizes.data_rows + c.args.i = omega (arith, c.parity_row-row.ensures, f.k_high, f.p_high, h) in
    let says = sym (flag_is F s damage plan ready (sizes.data_rows + c.args.i) (omega arith)) ∙ ap (flag damage) (sym at) ∙ sym c.is_sound.ensures in
    elim c.then-not-is_sound.branch [
      | then-not-is_sound-via-then-not-is_sound v ↦ sym (misfit_none F s damage plan ready blocks w c.args.i (says ∙ v.if-not-is_sound.true))
      | then-not-is_sound-via-else-not-is_sound+then-is_used v ↦
          let few : sizes.data_rows + c.args.i ≤ 68 = omega (arith, f.k_high, f.p_high) in
          sym (misfit_used_for F s damage plan ready blocks w c.args.i h (says ∙ v.if-not-is_sound.false) (sym (v.is_used.ensures few) ∙ v.if-is_used.true))
    ]

pub returns : goal.returns
returns g c ready h blocks w =
    let F = g.S.Symbol.Field.algebra in
    let meaning = g.S.Symbol.Field.meaning in
    let group = c.args.group.now in
    let sizes = group.sizes in
    let held = g.S.Shelf.contents group.shelf.now in
    let s = shown g.S.Shelf.contents meaning group in
    let damage = c.args.damage.now in
    let plan = c.args.plan.now in
    let f = fitting F s ready.fit in
    let weights : ℕ → _ = stored F c.worked_row.result.weights in
    let at : c.parity_row-row.result ≡ sizes.data_rows + c.args.i = omega (arith, c.parity_row-row.ensures, f.k_high, f.p_high, h) in
    let on : sound F s (sizes.data_rows + c.args.i) ≡ true =
    sym (flag_is F s damage plan ready (sizes.data_rows + c.args.i) (omega arith)) ∙ ap (flag damage) (sym at) ∙ sym c.is_sound.ensures ∙ c.if-not-is_sound.false in
    c.first_difference.ensures
    ∙ ap (λ (row : ℕ). lowest sizes.block_length (λ place. differ F (weighted_sum F meaning held weights (sizes.data_rows + sizes.parity_rows) place) (element_at F meaning held row place))) (c.worked_row.ensures.row ∙ at)
    ∙ misfit_found F s damage plan ready blocks w c.args.i h on weights
    (λ source o.
    weights_for F s damage plan ready c.parity_row-row.result weights c.worked_row.ensures.weights (omega arith) source o ∙ ap (λ (r : ℕ). weight_of F sizes.data_rows (flag damage) plan r source) at)
