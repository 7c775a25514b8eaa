use Rattle.std.proofs.Common.{◌≡◌, ◌-◌, ◌+◌, Some, slice_set, rules, arith}
use Rattle.std.proofs.lemmas.Grind.{common_steps}
use borrow.Rule.Slice.PartMut.{put_mid}
use Rattle.image_shelves.specs.Layout.{put_at}
use Rattle.image_shelves.proofs.Images.{unchanged, changed}
use Rattle.image_shelves.proofs.image_put.Goals as goal

pub returns-in_err-spot-clause-after : goal.returns-in_err-spot-clause-after
returns-in_err-spot-clause-after g c =
    unchanged g.F.CodedField.kind g.F.CodedField.width g.F.Field.algebra.size g.F.Field.symbol c.args.bytes.now c.args.row c.args.place _ (search rules)

pub returns-clause-after : goal.returns-clause-after
returns-clause-after g c =
    let k = g.F.CodedField.kind in
    let w = g.F.CodedField.width in
    let q = g.F.Field.algebra.size in
    let v = g.F.Field.algebra.number (g.F.Field.meaning c.args.symbol) in
    let bytes = c.args.bytes.now in
    let s = c.in_ok-spot.spot in
    let wrote : put_mid s.code (s.code + c.code_width.result - s.code) (slice_set bytes s.mark 1) c.encode.new.into ≡ put_at w (Some s) v bytes = grind (arith, common_steps) in
    let put = changed k w q g.F.Field.symbol bytes c.args.row c.args.place v s (search rules) (g.F.Field.algebra.number_bound (g.F.Field.meaning c.args.symbol)) c.code_width.ensures.roomy in
    cc
