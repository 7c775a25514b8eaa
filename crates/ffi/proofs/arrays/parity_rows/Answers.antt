use Rattle.std.proofs.Common.{◌≡◌, ◌*◌, ◌+◌, ℕ, suc, length, min, sym, ap, ◌∙◌, arith, length-take, length-drop}
use Rattle.ffi.specs.Answers.{written_at}
use Rattle.ffi.specs.Parity.{row_numbers, rows_written}
use Rattle.ffi.proofs.Rows.{row_put, rows_past}
use Rattle.ffi.proofs.arrays.parity_rows.Goals as goal

pub returns-then-from-numbers : goal.returns-then-from-numbers
returns-then-from-numbers g c low few known =
    let F = g.S.Symbol.Field in
    c.loop-i.invariant low few known
    ∙ sym (rows_past F.algebra F.meaning (g.S.Shelf.contents c.args.shelf.now) c.args.sizes c.args.sizes.parity_rows c.loop-i.i c.args.numbers.now
    (omega (arith, c.saturating_mul-from.ensures, c.if-from-numbers.true)) (omega arith))

pub loop-i-preserved : goal.loop-i-preserved
loop-i-preserved g c low few known =
    let F = g.S.Symbol.Field in
    let contents = g.S.Shelf.contents c.args.shelf.now in
    let i = c.loop-i.i in
    let room = c.loop-i.numbers in
    let n = c.args.sizes.block_length in
    let next : suc i ≡ i + 1 = omega arith in
    let begins : c.saturating_mul-from.result ≡ i * n = omega (arith, c.saturating_mul-from.ensures, c.if-from-numbers.false) in
    let ends : c.min-to.result ≡ min (c.saturating_mul-from.result + n) (length room) = omega (arith, c.min-to.ensures, c.saturating_add.ensures) in
    row_put F.algebra F.meaning contents c.args.sizes i c.saturating_mul-from.result c.min-to.result room c.parity_row.new.numbers begins ends (omega arith)
    (c.parity_row.ensures (omega arith) few known ∙ ap (row_numbers F.algebra F.meaning contents c.args.sizes i 0) (simp (length-take, length-drop) (omega arith)))
    ∙ ap (written_at (i * n) (row_numbers F.algebra F.meaning contents c.args.sizes i 0 n)) (c.loop-i.invariant low few known)
    ∙ ap (λ (v : ℕ). rows_written F.algebra F.meaning contents c.args.sizes v c.args.numbers.now) next
