use Rattle.std.proofs.Common.{rules, ◌≡◌, ℕ, ◌+◌, ◌<◌, sym, ◌∙◌, subst, arith}
use Rattle.rules.specs.Views.{seen}
use Rattle.rules.proofs.Rows.{fitting}
use Rattle.rows.specs.Cards.{Holds}
use Rattle.shelves.specs.Puts.{PutsAt, unput}
use Rattle.rules.specs.Order.{mended_places}
use Rattle.mending.proofs.Ordering.{sound_passed, row_mended}
use Rattle.mending.specs.Stored.{stored}
use Rattle.mending.specs.Puts.{row_cells}
use Rattle.mending.proofs.Stating.{flag_is, weights_for}
use Rattle.mending.proofs.Putting.{sound_next, put_next, all_mended}
use Rattle.mending.proofs.put_rows_for.Goals as goal
use Rattle.mending.proofs.put_rows_for.Goals.{then-not-is_sound, else-not-is_sound}

pub loop-row-init : goal.loop-row-init
loop-row-init g c = record { same = search rules; held = search rules; puts = λ ready. unput }

pub loop-row-preserved : goal.loop-row-preserved
loop-row-preserved g c =
    let F = g.S.Symbol.Field.algebra in
    let meaning = g.S.Symbol.Field.meaning in
    let contents = g.S.Shelf.contents in
    let sizes = c.args.group.now.sizes in
    let damage = c.args.damage.now in
    let plan = c.args.plan.now in
    let before = contents c.args.group.now.shelf.now in
    let now = contents c.loop-row.group.shelf.now in
    let s = seen meaning sizes before in
    let row = c.loop-row.row in
    let same = c.loop-row.invariant.same in
    let h : row < sizes.data_rows + sizes.parity_rows = omega (arith, c.rows-row-end.ensures) in
    elim c.if-not-is_sound.branch [
      | then-not-is_sound v ↦ record {
        same = rw v.group-is (record { shelf = v.put.ensures.same.shelf ∙ same.shelf; sizes = v.put.ensures.same.sizes ∙ same.sizes });
        held = λ ready blocks w.
            let weights = stored F v.worked_row-worked.result.weights in
            rw v.group-is (put_next F meaning sizes before damage plan ready blocks w row h now (c.loop-row.invariant.held ready blocks w) weights
            (weights_for F s damage plan ready row weights (rw same.sizes at v.worked_row-worked.ensures.weights) h)
            (sym (flag_is F s damage plan ready row h) ∙ sym c.is_sound.ensures ∙ v.if-not-is_sound.true) _
            (subst (λ (r : ℕ). r < sizes.data_rows + sizes.parity_rows → Holds F meaning sizes now (row_cells F meaning sizes weights r now) (contents v.put.new.group.shelf.now)) v.worked_row-worked.ensures.row (rw same.sizes at v.put.ensures.cells) h));
        puts = λ ready.
            let off = sym (flag_is F s damage plan ready row h) ∙ sym c.is_sound.ensures ∙ v.if-not-is_sound.true in
            let f = fitting F s ready.fit in
            let puts = (rw (same.sizes, v.worked_row-worked.ensures.row) at v.put.ensures.puts) (omega (arith, f.n_high, f.m_high)) in
            rw v.group-is (row_mended g.S.Shelf.stores F s row off (c.loop-row.invariant.puts ready) puts);
      }
      | else-not-is_sound v ↦ record {
        same = rw v.group-is same;
        held = λ ready blocks w.
            rw v.group-is (sound_next F meaning sizes before damage plan ready blocks w row h now (c.loop-row.invariant.held ready blocks w) (sym (flag_is F s damage plan ready row h) ∙ sym c.is_sound.ensures ∙ v.if-not-is_sound.false));
        puts = λ ready. rw v.group-is (sound_passed g.S.Shelf.stores F s row (sym (flag_is F s damage plan ready row h) ∙ sym c.is_sound.ensures ∙ v.if-not-is_sound.false) (c.loop-row.invariant.puts ready));
      }
    ]

pub returns-clause-mended : goal.returns-clause-mended
returns-clause-mended g c ready blocks w =
    let F = g.S.Symbol.Field.algebra in
    let meaning = g.S.Symbol.Field.meaning in
    let sizes = c.args.group.now.sizes in
    let before = g.S.Shelf.contents c.args.group.now.shelf.now in
    let f = fitting F (seen meaning sizes before) ready.fit in
    let end : c.loop-row.row ≡ sizes.data_rows + sizes.parity_rows = omega (arith, c.rows-row-end.ensures, f.k_high, f.p_high) in
    all_mended F meaning sizes before ready.fit blocks _
    (rw end at (c.loop-row.invariant.held ready blocks w))

pub returns-clause-puts : goal.returns-clause-puts
returns-clause-puts g c ready =
    let F = g.S.Symbol.Field.algebra in
    let sizes = c.args.group.now.sizes in
    let s = seen g.S.Symbol.Field.meaning sizes (g.S.Shelf.contents c.args.group.now.shelf.now) in
    let f = fitting F s ready.fit in
    let end : c.loop-row.row ≡ sizes.data_rows + sizes.parity_rows = omega (arith, c.rows-row-end.ensures, f.k_high, f.p_high) in
    subst (λ v. PutsAt g.S.Shelf.stores c.args.group.now.shelf.now (mended_places F s v) c.loop-row.group.shelf.now) end (c.loop-row.invariant.puts ready)
