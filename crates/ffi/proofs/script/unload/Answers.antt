use Rattle.std.proofs.Common.{ap₂, sym, ◌∙◌, arith, set}
use Rattle.std.specs.Prelude.{map}
use Rattle.std.proofs.lemmas.List.{length-map}
use Rattle.ffi.proofs.Numbers.{written_more, written_past, map_at}
use Rattle.ffi.proofs.script.unload.Goals as goal
use Rattle.ffi.proofs.script.unload.Goals.{then-i-numbers, else-i-numbers}

pub loop-i-preserved : goal.loop-i-preserved
loop-i-preserved g c =
    let f = λ (x : g.row.F.Denot). g.F.Field.algebra.number (g.F.Field.meaning x) in
    let xs = map f c.args.symbols.now in
    let old = c.args.numbers.now in
    let i = c.loop-i.i in
    let same = length-map c.args.symbols.now f in
    elim c.if-i-numbers.branch [
      | then-i-numbers w ↦
          w.numbers-is
          ∙ ap₂ (λ ys y. set ys i y) c.loop-i.invariant (w.number.ensures ∙ map_at f c.args.symbols.now i c.index-symbols-i.result (omega arith) c.index-symbols-i.is)
          ∙ sym (written_more xs old i (omega (arith, same)) (omega arith))
      | else-i-numbers w ↦ w.numbers-is ∙ c.loop-i.invariant ∙ sym (written_past xs old i (omega (arith, same)) (omega arith))
    ]
