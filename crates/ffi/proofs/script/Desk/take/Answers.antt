use Rattle.std.proofs.Common.{ℕ, List, refl, sym, ap, ap₂, ◌∙◌, ◌*◌, Result}
use Rattle.rules.specs.declared.Refusal.{Refusal}
use Rattle.ffi.specs.Answers.{written_at, result_numbers}
use Rattle.ffi.specs.declared.answers.Given.{Given}
use Rattle.ffi.specs.declared.script.Desk.{Desk}
use Rattle.ffi.proofs.Running.{taken_call, taken_damage}
use Rattle.ffi.proofs.script.Desk.take.Goals as goal
use Rattle.ffi.proofs.script.Desk.take.Goals.{in-Call, in-Damage}

pub returns-clause-taken : goal.returns-clause-taken
returns-clause-taken g c start begins =
    let F = g.F.Field in
    let before = c.args.self.now in
    let at = 5 * c.args.index in
    let X = g.row.F.Denot in
    elim c.match-step.branch [
      | in-Call w ↦
          taken_call g.S.Shelf.contents g.S.Shelf.stores F.meaning F.algebra _ _ c.args.step start at c.args.tray.now before.numbers.now before.answers.now
          w.call-answered.new.tray w.call-answered.new.self.numbers.now c.match-step.tray c.write_answer.new.self.numbers.now c.write_answer.new.self.answers.now
          w.in-Call.call w.call-answered.result w.in-Call.is (w.call-answered.ensures.result start begins) w.tray-is
          (c.write_answer.ensures.numbers ∙ ap (λ (d : Desk X). d.numbers.now) w.self-is)
          (c.write_answer.ensures.answers
          ∙ ap₂ (λ (r : Result Given Refusal) (rs : List ℕ). written_at at (result_numbers r) rs) w.answered-is (ap (λ (d : Desk X). d.answers.now) w.self-is ∙ w.call-answered.ensures.answers))
      | in-Damage w ↦
          taken_damage g.S.Shelf.contents g.S.Shelf.stores F.meaning F.algebra _ _ c.args.step start at c.args.tray.now before.numbers.now before.answers.now
          c.match-step.tray c.write_answer.new.self.numbers.now c.write_answer.new.self.answers.now
          w.in-Damage.is (record { shown = _; shows = refl; left = _; met = w.damage.ensures; leaves = sym w.tray-is })
          (c.write_answer.ensures.numbers ∙ ap (λ (d : Desk X). d.numbers.now) w.self-is)
          (c.write_answer.ensures.answers
          ∙ ap₂ (λ (r : Result Given Refusal) (rs : List ℕ). written_at at (result_numbers r) rs) w.answered-is (ap (λ (d : Desk X). d.answers.now) w.self-is))
    ]
