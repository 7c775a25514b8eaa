use Rattle.std.proofs.Common.{◌≡◌, ◌≤◌, true, length}
use Rattle.rules.specs.States.{fits, sound}
use Rattle.rows.specs.Shown.{shown}
use Rattle.mending.proofs.Gathering.{Listed}
use Rattle.mending.proofs.gather.Given as goal

abbrev pub invariant-loop-row : goal.invariant-loop-row
invariant-loop-row g l =
    let F = g.S.Symbol.Field.algebra in
    let s = shown g.S.Shelf.contents g.S.Symbol.Field.meaning l.group in record {
      length_kept : length l.rows ≡ 4;
      within : l.count ≤ l.row;
      listed : fits F s ≡ true → Listed (sound F s) l.row l.rows l.count;
    }
