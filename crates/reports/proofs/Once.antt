-- An input has only one receipt.
use Rattle.std.proofs.Common.{◌≡◌, ℕ, List, Ok, Err, Result, sym, ap, ◌∙◌, arith}
use Rattle.algebra.specs.Algebra.{Field}
use Rattle.byte_field.specs.Meaning.{byte_algebra}
use Rattle.counter_field.specs.Meaning.{counter_algebra}
use Rattle.images.specs.declared.FieldKind.{FieldKind}
use Rattle.images.specs.declared.FieldKind.TheVariants.{Byte, Counter}
use Rattle.images.specs.declared.Head.{Head}
use Rattle.rules.specs.Calls.{Answer, intake}
use Rattle.rules.specs.States.{State}
use Rattle.rules.specs.declared.Refusal.{Refusal}
use Rattle.rules.specs.declared.Sizes.{Sizes}
use Rattle.rules.proofs.Answered.{answered}
use Rattle.reports.specs.Cards.{cards_of, outcome_answer, OutcomeOf}
use Rattle.reports.specs.Receipt.{ImageOutcome, ReceiptOf, Received, OnlyReceipt}
use Rattle.reports.specs.Report.{reported}
use Rattle.reports.specs.declared.InputRefusal.{InputRefusal}
use Rattle.reports.specs.declared.cards.Cards.{Cards}
use Rattle.reports.specs.declared.receipt.Receipt.{Receipt}

module _ {A : Type 0} (F : Field A) (s : State A) where
  alike : (o o' : Result Cards Refusal) → (a : OutcomeOf F s o) (a' : OutcomeOf F s o') → ◌≡◌ {A = Answer A} (outcome_answer o) (outcome_answer o') → a.after ≡ a'.after → o ≡ o'
  alike (Ok cards) (Ok cards') a a' e after = ap Ok (a.cards ∙ ap (cards_of F) after ∙ sym a'.cards)
  alike (Err r) (Err r') a a' e after = let same : r ≡ r' = cc in ap Err same
  alike (Ok cards) (Err r) a a' e after = let z : ◌≡◌ {A = ℕ} 0 1 = cc in absurd (omega arith)
  alike (Err r) (Ok cards) a a' e after = let z : ◌≡◌ {A = ℕ} 0 1 = cc in absurd (omega arith)

  outcome_once : (o o' : Result Cards Refusal) → OutcomeOf F s o → OutcomeOf F s o' → o ≡ o'
  outcome_once o o' a a' =
      let (answer, after, promise, only) = answered F s intake in
      let e = only _ _ a.promise in
      let e' = only _ _ a'.promise in
      alike o o' a a' (e.0 ∙ sym e'.0) (e.1 ∙ sym e'.1)

image_once : (f : FieldKind) (sizes : Sizes) (bytes : List ℕ) (o o' : Result Cards Refusal) → ImageOutcome f sizes bytes o → ImageOutcome f sizes bytes o' → o ≡ o'
image_once Byte sizes bytes o o' a a' = outcome_once byte_algebra _ o o' a a'
image_once Counter sizes bytes o o' a a' = outcome_once counter_algebra _ o o' a a'

receipt_once : (bytes : List ℕ) (report : Result Head InputRefusal) (r r' : Result Receipt InputRefusal) → ReceiptOf bytes report r → ReceiptOf bytes report r' → r' ≡ r
receipt_once bytes (Err q) r r' a a' = a' ∙ sym a
receipt_once bytes (Ok h) r r' (o, is, a) (o', is', a') = is' ∙ ap (λ (v : Result Cards Refusal). Ok (record { head = h; intake = v })) (image_once h.field _ bytes o' o a' a) ∙ sym is

pub only_receipt : (bytes : List ℕ) (receipt : Result Receipt InputRefusal) → Received bytes receipt → OnlyReceipt bytes receipt
only_receipt bytes receipt a other a' = receipt_once bytes (reported bytes) receipt other a a'
