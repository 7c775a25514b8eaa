-- What the receipt of an image amounts to: it tells of an intake exactly where the tray is acceptable, and then the numbers of each row's card are those of
-- the signature of the row's block in the image.
use Rattle.std.specs.Prelude.{◌≡◌, ℕ, ◌+◌, ◌<◌, ◌↔◌, List, Ok, Result}
use Rattle.algebra.specs.Algebra.{Field}
use Rattle.byte_field.specs.Meaning.{byte_algebra, byte_meaning}
use Rattle.counter_field.specs.Meaning.{counter_algebra, counter_meaning}
use Rattle.images.specs.declared.FieldKind.{FieldKind}
use Rattle.images.specs.declared.FieldKind.TheVariants.{Byte, Counter}
use Rattle.images.specs.declared.Head.{Head}
use Rattle.image_shelves.specs.Fields.{byte_image, counter_image}
use Rattle.rules.specs.Codes.{component}
use Rattle.rules.specs.Exact.{Acceptable}
use Rattle.rules.specs.States.{State, k, p, n, m, symbol_at}
use Rattle.rules.specs.Views.{seen}
use Rattle.rules.specs.declared.Refusal.{Refusal}
use Rattle.rules.specs.declared.Sizes.{Sizes}
use Rattle.reports.specs.declared.InputRefusal.{InputRefusal}
use Rattle.reports.specs.Cards.{listed, numbers_of}
use Rattle.reports.specs.Receipt.{head_sizes}
use Rattle.reports.specs.declared.cards.Cards.{Cards}
use Rattle.reports.specs.declared.receipt.Receipt.{Receipt}

module _ {A : Type 0} (F : Field A) (s : State A) where
  -- the numbers of the signature of a row's block
  abbrev pub signature_numbers : ℕ → List ℕ
  signature_numbers row = listed (m s) (λ c. F.number (component F (n s) (symbol_at F s row) c))

  pub record OutcomeExact (o : Result Cards Refusal) : Type 0 where
    pub taken : ((cards : Cards) × (o ≡ Ok cards)) ↔ Acceptable F s
    pub rows : (cards : Cards) → o ≡ Ok cards → cards.rows ≡ k s + p s
    pub cards : (cards : Cards) → o ≡ Ok cards → (row : ℕ) → row < k s + p s → numbers_of cards row ≡ signature_numbers row

abbrev pub ImageExact : FieldKind → Sizes → List ℕ → Result Cards Refusal → Type 0
ImageExact Byte sizes bytes o = OutcomeExact byte_algebra (seen byte_meaning sizes (byte_image bytes)) o
ImageExact Counter sizes bytes o = OutcomeExact counter_algebra (seen counter_meaning sizes (counter_image bytes)) o

abbrev pub ReceiptExact : List ℕ → Result Receipt InputRefusal → Type 0
ReceiptExact bytes receipt = (h : Head) (o : Result Cards Refusal) → receipt ≡ Ok (record { head = h; intake = o }) → ImageExact h.field (head_sizes h) bytes o
