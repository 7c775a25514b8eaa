use Rattle.std.proofs.Common.{rules, ◌≡◌, min, length, take, drop, ap, ◌∙◌, arith}
use Rattle.std.proofs.lemmas.List.{take_min, drop_min, take_rest, places}
use Rattle.ffi.proofs.Running.{resulting}
use Rattle.ffi.proofs.script.Desk.call.Goals as goal

pub returns-clause-result : goal.returns-clause-result
returns-clause-result g c start begins =
    let ns = c.args.self.now.numbers.now in
    let f = c.min-from.result in
    let is : f ≡ min start (length ns) = omega (arith, c.min-from.ensures, begins) in
    resulting g.S.Shelf.contents g.S.Shelf.stores g.F.Field.meaning g.F.Field.algebra (length c.args.self.now.symbols.now) c.args.step start c.args.call c.make_call.result c.args.tray.now ns c.make_call.new.tray
    (take f ns) _ c.make_call.new.numbers _
    (ap (λ v. take v ns) is ∙ take_min start ns) (take_rest ns f ∙ ap (λ v. drop v ns) is ∙ drop_min start ns) (search (rules, places)) c.make_call.ensures.called c.make_call.ensures.puts
