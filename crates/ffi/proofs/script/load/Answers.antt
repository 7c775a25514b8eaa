use Rattle.std.proofs.Common.{rules, ◌≡◌, get_or, ap, ◌∙◌, arith}
use Rattle.rows.specs.Weights.{element_of}
use Rattle.ffi.proofs.Numbers.{loaded_more}
use Rattle.ffi.proofs.script.load.Goals as goal

pub loop-i-preserved : goal.loop-i-preserved
loop-i-preserved g c =
    let F = g.F.Field.algebra in
    let is : c.unwrap_or.result ≡ get_or c.args.numbers.now c.loop-i.i 0 = search rules in
    loaded_more F g.F.Field.meaning c.args.numbers.now c.loop-i.i c.loop-i.symbols c.element.result (omega arith) c.loop-i.invariant
    (c.element.ensures.either ∙ ap (element_of F) is)
