use Rattle.std.proofs.Common.{length, sym, ap, ◌∙◌, arith, length-set}
use Rattle.rules.specs.Calls.{is_sound}
use Rattle.rules.specs.States.{sound}
use Rattle.rows.specs.Shown.{shown}
use Rattle.rules.proofs.Rows.{fitting}
use Rattle.mending.proofs.Gathering.{listed_sound, listed_unsound, listed_past, listed_all}
use Rattle.mending.proofs.gather.Goals as goal
use Rattle.mending.proofs.gather.Goals.{then-not-is_sound, then-count-lt4, else-count-lt4, else-not-is_sound}

pub loop-row-preserved : goal.loop-row-preserved
loop-row-preserved g c =
    let F = g.S.Symbol.Field.algebra in
    let s = shown g.S.Shelf.contents g.S.Symbol.Field.meaning c.args.group.now in
    let row = c.loop-row.row in
    let inv = c.loop-row.invariant in
    elim c.if-not-is_sound.branch [
      | then-not-is_sound w ↦ elim w.if-count-lt4.branch [
        | then-count-lt4 v ↦ record {
          length_kept = ap length (w.rows-is ∙ v.rows-is) ∙ length-set c.loop-row.rows c.loop-row.count row ∙ inv.length_kept;
          within = omega (arith, w.count-is);
          listed = λ fit.
              rw (w.rows-is, v.rows-is, w.count-is) (listed_unsound (sound F s) row c.loop-row.rows c.loop-row.count (inv.listed fit) (ap is_sound (sym (c.audit.ensures (let f = fitting F s fit in omega (arith, f.n_high, f.m_high)))) ∙ sym c.is_sound.ensures ∙ w.if-not-is_sound.true) (omega (arith, v.if-count-lt4.true, inv.length_kept)));
        }
        | else-count-lt4 v ↦ record {
          length_kept = ap length (w.rows-is ∙ v.rows-is) ∙ inv.length_kept;
          within = omega (arith, w.count-is);
          listed = λ fit.
              rw (w.rows-is, v.rows-is, w.count-is) (listed_past (sound F s) row c.loop-row.rows c.loop-row.count (inv.listed fit) (ap is_sound (sym (c.audit.ensures (let f = fitting F s fit in omega (arith, f.n_high, f.m_high)))) ∙ sym c.is_sound.ensures ∙ w.if-not-is_sound.true) v.if-count-lt4.false);
        }
      ]
      | else-not-is_sound w ↦ record {
        length_kept = ap length w.rows-is ∙ inv.length_kept;
        within = omega (arith, w.count-is);
        listed = λ fit.
            rw (w.rows-is, w.count-is) (listed_sound (sound F s) row c.loop-row.rows c.loop-row.count (inv.listed fit) (ap is_sound (sym (c.audit.ensures (let f = fitting F s fit in omega (arith, f.n_high, f.m_high)))) ∙ sym c.is_sound.ensures ∙ w.if-not-is_sound.false));
      }
    ]

pub returns : goal.returns
returns g c fit =
    let F = g.S.Symbol.Field.algebra in
    let s = shown g.S.Shelf.contents g.S.Symbol.Field.meaning c.args.group.now in
    let f = fitting F s fit in
    listed_all F s _ c.loop-row.row (omega (arith, c.rows-row-end.ensures, f.k_high, f.p_high)) (c.loop-row.invariant.listed fit)
