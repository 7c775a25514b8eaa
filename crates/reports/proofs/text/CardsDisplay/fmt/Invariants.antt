use Rattle.std.specs.Fmt.{HasWritten, IsPlainFormatter}
use Rattle.reports.specs.Cards.{numbers_of}
use Rattle.reports.specs.Text.{lines, card_text}
use Rattle.reports.proofs.text.CardsDisplay.fmt.Given as goal

abbrev pub invariant-loop-row : goal.invariant-loop-row
invariant-loop-row g l =
    IsPlainFormatter l.initial.f → HasWritten g.W.Write.write_str_gives l.initial.f (lines l.row (λ row. card_text row (numbers_of l.self row))) l.f
