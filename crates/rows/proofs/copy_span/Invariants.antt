use Rattle.std.proofs.Common.{◌≡◌, ◌+◌, ◌^◌, ◌<◌, length, take}
use Rattle.std.specs.Prelude.{map}
use Rattle.rules.specs.Updates.{span}
use Rattle.rules.specs.Views.{seen}
use Rattle.rules.specs.declared.Sizes.{Sizes}
use Rattle.rows.proofs.copy_span.Given as goal

abbrev pub invariant-loop-i : goal.invariant-loop-i
invariant-loop-i g l =
    let F = g.S.Symbol.Field.algebra in
    let meaning = g.S.Symbol.Field.meaning in
    l.start + length l.buffer < 2 ^ 64 → (sizes : Sizes) → map meaning (take l.i l.buffer) ≡ span F (seen meaning sizes (g.S.Shelf.contents l.shelf)) l.row l.start l.i
