use Rattle.std.proofs.Common.{arith}
use Rattle.image_shelves.proofs.Images.{spot_within}
use Rattle.image_shelves.proofs.find_spot.Goals as goal

pub returns-clause-within : goal.returns-clause-within
returns-clause-within g c = grind (arith, spot_within g.F.CodedField.kind g.F.CodedField.width c.args.bytes.now c.in_ok-head.head)
