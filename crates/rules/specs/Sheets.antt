-- A round, action by action, and a sheet, record by record: what their methods answer and leave.
use Rattle.std.specs.Prelude.{ℕ, ◌+◌, cond, Ok, Err, Result}
use Rattle.rules.specs.Updates.{entry_sound, next_row}
use Rattle.rules.specs.declared.Action.{Action}
use Rattle.rules.specs.declared.Action.TheVariants.{Begin, Step, Totals}
use Rattle.rules.specs.declared.Entry.{Entry}
use Rattle.rules.specs.declared.Entry.TheVariants.{Read}
use Rattle.rules.specs.declared.Record.{Record}
use Rattle.rules.specs.declared.Refusal.{Refusal}
use Rattle.rules.specs.declared.Refusal.TheVariants.{WrongPhase, StillWalking}
use Rattle.rules.specs.declared.Round.{Round}
use Rattle.rules.specs.declared.Round.TheVariants.{Resting, Walking, Over}
use Rattle.rules.specs.declared.Verdict.{Verdict}

-- a record that holds a verdict
abbrev pub entered : Verdict → Record
entered verdict = record { entry = Read verdict }

-- the pair of counts with one entry more
abbrev pub tallied : ℕ × ℕ → Entry → ℕ × ℕ
tallied totals entry = cond (entry_sound entry) (totals.0 + 1, totals.1) (totals.0, totals.1 + 1)

-- the row at which a round begins, the row that a step audits, how many rows were walked; or the refusal
abbrev pub turn_answer : Round → Action → ℕ → Result ℕ Refusal
turn_answer Resting Begin rows = Ok 0
turn_answer Resting Step rows = Err WrongPhase
turn_answer Resting Totals rows = Err WrongPhase
turn_answer (Walking row) Begin rows = Err (StillWalking row)
turn_answer (Walking row) Step rows = Ok row
turn_answer (Walking row) Totals rows = Err WrongPhase
turn_answer Over Begin rows = Ok 0
turn_answer Over Step rows = Err WrongPhase
turn_answer Over Totals rows = Ok rows

-- the round afterwards
abbrev pub turned : Round → Action → ℕ → Round
turned Resting Begin rows = Walking 0
turned Resting Step rows = Resting
turned Resting Totals rows = Resting
turned (Walking row) Begin rows = Walking row
turned (Walking row) Step rows = next_row row rows
turned (Walking row) Totals rows = Walking row
turned Over Begin rows = Walking 0
turned Over Step rows = Over
turned Over Totals rows = Over
