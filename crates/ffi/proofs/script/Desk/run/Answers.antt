use Rattle.std.proofs.Common.{◌≡◌, ℕ, ◌+◌, ◌*◌, ◌/◌, ◌-◌, ◌^◌, List, [], length, drop, min, suc, get_or, refl, ap, ◌∙◌, arith, subst}
use Rattle.ffi.specs.Script.{step_of}
use Rattle.ffi.specs.Runs.{ByClosure, Runs, begun, numbers_before, step_at}
use Rattle.ffi.specs.declared.script.Step.{Step}
use Rattle.ffi.proofs.Running.{chunk_at, step_words, one_more}
use Rattle.ffi.proofs.script.Desk.run.Goals as goal

pub loop-index-init : goal.loop-index-init
loop-index-init g c = record { runs = begun; same = record { numbers = refl; answers = refl }; room = refl; from = refl }

pub loop-index-preserved : goal.loop-index-preserved
loop-index-preserved g c =
    let F = g.F.Field in
    let I = c.loop-index.invariant in
    let script = c.args.script.now in
    let i = c.loop-index.index in
    let start = c.args.self.now in
    let now = c.loop-index.self in
    let is : c.from-step.result ≡ step_at script i =
    c.from-step.ensures
    ∙ ap (λ (chunks : List (List ℕ)). step_of (get_or chunks i [])) c.as_chunks.ensures.front
    ∙ ap step_of (chunk_at (length script / 4) i script (omega (arith, c.as_chunks.ensures.front_len)))
    ∙ step_words (drop (4 * i) script) in
    record {
      runs =
          one_more g.S.Shelf.contents g.S.Shelf.stores F.meaning F.algebra (ByClosure g.D.Fn c.args.damage) (length start.symbols.now) script c.args.tray.now start.numbers.now start.answers.now i
          c.loop-index.tray now.numbers.now now.answers.now c.take.new.tray c.take.new.self.numbers.now c.take.new.self.answers.now c.from-step.result (length now.symbols.now)
          I.runs is I.room (c.take.ensures.taken (numbers_before script i) I.from);
      same = record { numbers = c.take.ensures.same.numbers ∙ I.same.numbers; answers = c.take.ensures.same.answers ∙ I.same.answers };
      room = c.take.ensures.room ∙ I.room;
      from =
          let e : suc i ≡ i + 1 = omega arith in
          let count = ap (λ (s : Step). s.count) is in
          let sum : c.saturating_add-from.result ≡ min (numbers_before script i + (step_at script i).count) (2 ^ 64 - 1) = omega (arith, c.saturating_add-from.ensures, I.from, count) in
          sum ∙ ap (λ (v : ℕ). min (numbers_before script v) (2 ^ 64 - 1)) e;
    }

pub returns-clause-runs : goal.returns-clause-runs
returns-clause-runs g c =
    let F = g.F.Field in
    let start = c.args.self.now in
    let end : c.loop-index.index ≡ length c.args.script.now / 4 = omega (arith, c.as_chunks.ensures.front_len, c.loop-index-test.false, c.loop-index.auto.index-end) in
    subst (λ (v : ℕ). Runs g.S.Shelf.contents g.S.Shelf.stores F.meaning F.algebra (ByClosure g.D.Fn c.args.damage) (length start.symbols.now) c.args.script.now c.args.tray.now start.numbers.now start.answers.now v c.loop-index.tray c.loop-index.self.numbers.now c.loop-index.self.answers.now)
    end c.loop-index.invariant.runs
