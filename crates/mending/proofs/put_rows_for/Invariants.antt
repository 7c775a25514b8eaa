use Rattle.std.proofs.Common.{ℕ}
use Rattle.algebra.specs.Below.{Below}
use Rattle.rules.specs.Updates.{Worked}
use Rattle.rules.specs.Views.{seen}
use Rattle.shelves.specs.Puts.{PutsAt}
use Rattle.rows.specs.Cards.{Holds}
use Rattle.rows.specs.Shown.{SameGroup}
use Rattle.rules.specs.Order.{mended_places}
use Rattle.mending.specs.Plans.{ReadyFor}
use Rattle.mending.specs.Puts.{mended_below}
use Rattle.mending.proofs.put_rows_for.Given as goal

abbrev pub invariant-loop-row : goal.invariant-loop-row
invariant-loop-row g l =
    let F = g.S.Symbol.Field.algebra in
    let meaning = g.S.Symbol.Field.meaning in
    let sizes = l.initial.group.sizes in
    let before = g.S.Shelf.contents l.initial.group.shelf.now in
    let s = seen meaning sizes before in record {
      same : SameGroup l.initial.group l.group;
      held : ReadyFor F s l.damage l.plan → (blocks : ℕ → ℕ → Below g.S.Symbol.Field.size) → Worked F s blocks → Holds F meaning sizes before (mended_below F meaning sizes blocks before l.row) (g.S.Shelf.contents l.group.shelf.now);
      puts : ReadyFor F s l.damage l.plan → PutsAt g.S.Shelf.stores l.initial.group.shelf.now (mended_places F s l.row) l.group.shelf.now;
    }
