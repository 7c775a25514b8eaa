use Rattle.std.proofs.Common.{◌≡◌, ◌^◌, ◌<◌, take}
use Rattle.algebra.specs.Code.{coded}
use Rattle.algebra.proofs.read_code.Given as goal

abbrev pub invariant-loop-byte : goal.invariant-loop-byte
invariant-loop-byte l = record { coded_so_far : l.number ≡ coded (take l.byte-index l.from); small : l.number < 256 ^ l.byte-index }
