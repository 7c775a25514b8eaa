-- The text of a report, and of the receipt that takein prints, without the last line's end.
use Rattle.std.specs.Prelude.{ℕ, zero, suc, List, [], ◌∷◌, ◌++◌, min, Ok, Err, Result, codes, decimal, flat_map}
use Rattle.images.specs.Text.{head_text}
use Rattle.images.specs.declared.Head.{Head}
use Rattle.rules.specs.Calls.{returned}
use Rattle.rules.specs.Text.{spaced, numbers_text}
use Rattle.rules.specs.declared.Refusal.{Refusal}
use Rattle.reports.specs.declared.InputRefusal.{InputRefusal}
use Rattle.reports.specs.declared.cards.Cards.{Cards}
use Rattle.reports.specs.declared.receipt.Receipt.{Receipt}
use Rattle.reports.specs.Cards.{numbers_of}
use Rattle.reports.specs.Report.{input_refusal_number}

abbrev pub report_text : Result Head InputRefusal → List ℕ
report_text (Ok h) = head_text h
report_text (Err r) = codes "image refused" ++ spaced (input_refusal_number r)

-- text 0, .., text (count - 1), each behind the end of the line before
abbrev pub lines : (count : ℕ) → (ℕ → List ℕ) → List ℕ
lines zero text = []
lines (suc count) text = lines count text ++ (10 ∷ text count)

-- the number of a row, and the numbers of its card
abbrev pub card_text : ℕ → List ℕ → List ℕ
card_text row numbers = codes "row " ++ (decimal row ++ (codes " card" ++ flat_map spaced numbers))

-- one line for each row; the table has 68
abbrev pub cards_text : Cards → List ℕ
cards_text t = lines (min t.rows 68) (λ row. card_text row (numbers_of t row))

abbrev pub outcome_text : Result Cards Refusal → List ℕ
outcome_text (Ok cards) = codes "intake taken" ++ cards_text cards
outcome_text (Err r) = codes "intake refused " ++ numbers_text (returned r)

abbrev pub receipt_text : Result Receipt InputRefusal → List ℕ
receipt_text (Ok receipt) = report_text (Ok receipt.head) ++ (10 ∷ outcome_text receipt.intake)
receipt_text (Err r) = report_text (Err r)
