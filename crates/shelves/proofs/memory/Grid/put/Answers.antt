use Rattle.std.proofs.Common.{rules, arith}
use Rattle.shelves.proofs.Arrays.{unchanged, put_changed}
use Rattle.shelves.proofs.memory.Grid.put.Goals as goal

pub returns-in_err-at-clause-after : goal.returns-in_err-at-clause-after
returns-in_err-at-clause-after g c =
    let m = c.args in
    unchanged m.self.rows m.self.places m.symbols.now m.marks.now m.row m.place _ (search rules)

pub returns-clause-after : goal.returns-clause-after
returns-clause-after g c = grind (arith, put_changed)
