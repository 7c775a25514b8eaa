use Rattle.std.proofs.Common.{◌≡◌, take}
use Rattle.std.specs.Prelude.{map}
use Rattle.ffi.specs.Answers.{written_over}
use Rattle.ffi.proofs.script.unload.Given as goal

abbrev pub invariant-loop-i : goal.invariant-loop-i
invariant-loop-i g l = l.numbers ≡ written_over (take l.i (map (λ x. g.F.Field.algebra.number (g.F.Field.meaning x)) l.symbols)) l.fn.numbers
