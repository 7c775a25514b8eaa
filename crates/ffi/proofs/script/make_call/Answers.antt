use Rattle.std.proofs.Common.{◌≡◌, List, length, min, take, subst, ap, ◌∙◌, arith}
use Rattle.std.specs.Prelude.{map}
use Rattle.std.proofs.lemmas.List.{length-take}
use Rattle.algebra.specs.Below.{Below}
use Rattle.rules.specs.Calls.{buffer_after}
use Rattle.rules.specs.Promises.{Promise}
use Rattle.tray.specs.State.{state}
use Rattle.ffi.specs.Answers.{written_over}
use Rattle.ffi.specs.Script.{elements, call_of, told}
use Rattle.ffi.proofs.Numbers.{map_twice}
use Rattle.ffi.proofs.Told.{told_numbers}
use Rattle.ffi.proofs.script.make_call.Goals as goal

pub returns-clause-called : goal.returns-clause-called
returns-clause-called g c =
    let F = g.S.Symbol.Field.algebra in
    let meaning = g.S.Symbol.Field.meaning in
    let numbers = c.args.numbers.now in
    let left = map meaning c.make-answered.new.symbols in
    let answer = told c.args.call left c.make-answered.result in
    let long : length (take c.min-count.result c.args.buffer.now) ≡ min c.args.step.count (length c.args.buffer.now) = omega (arith, length-take c.min-count.result c.args.buffer.now, c.min-count.ensures) in
    let loaded : map meaning c.load.new.symbols ≡ elements F numbers 0 (min c.args.step.count (length c.args.buffer.now)) = c.load.ensures ∙ ap (elements F numbers 0) long in
    record {
      answer = answer;
      promised = subst (λ (xs : List (Below g.S.Symbol.Field.size)). Promise F (state g.S.Shelf.contents meaning c.args.tray.now) (call_of c.args.call c.args.step xs) answer (state g.S.Shelf.contents meaning c.make-answered.new.tray)) loaded c.make-answered.ensures.promise;
      told_as = told_numbers c.args.call left c.make-answered.result;
      left =
          c.unload.ensures
          ∙ ap (λ ys. written_over ys numbers) (map_twice F.number meaning c.make-answered.new.symbols ∙ ap (map F.number) (c.make-answered.ensures.symbols ∙ ap (λ xs. buffer_after xs answer) loaded));
    }
