use Rattle.std.proofs.Common.{rules, arith, length-set, get_or-set_other, get_or-set_same}
use Rattle.shelves.proofs.Arrays.{unchanged, changed}
use Rattle.own_shelf.proofs.OwnShelf.lose.Goals as goal

pub returns-in-Some : goal.returns-in-Some
returns-in-Some g c = grind (arith, changed, length-set, get_or-set_other, get_or-set_same)

pub returns-in_default : goal.returns-in_default
returns-in_default g c =
    let s = c.args.self.now in
    unchanged s.grid.rows s.grid.places s.symbols.items s.marks.items c.args.row c.args.place _ (search rules)
