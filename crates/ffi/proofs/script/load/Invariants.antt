use Rattle.std.proofs.Common.{◌≡◌, take}
use Rattle.std.specs.Prelude.{map}
use Rattle.ffi.specs.Script.{elements}
use Rattle.ffi.proofs.script.load.Given as goal

abbrev pub invariant-loop-i : goal.invariant-loop-i
invariant-loop-i g l = map g.F.Field.meaning (take l.i l.symbols) ≡ elements g.F.Field.algebra l.numbers 0 l.i
