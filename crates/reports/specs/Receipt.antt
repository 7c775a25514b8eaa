-- What takein answers: the report on its input, and for a good image what intake answers to the image's tray.
use Rattle.std.specs.Prelude.{◌≡◌, ℕ, List, Ok, Err, Result, OnErr}
use Rattle.algebra.specs.Algebra.{Field}
use Rattle.byte_field.specs.Meaning.{byte_algebra, byte_meaning}
use Rattle.counter_field.specs.Meaning.{counter_algebra, counter_meaning}
use Rattle.images.specs.declared.FieldKind.{FieldKind}
use Rattle.images.specs.declared.FieldKind.TheVariants.{Byte, Counter}
use Rattle.images.specs.declared.Head.{Head}
use Rattle.image_shelves.specs.Fields.{byte_image, counter_image, BytesPut}
use Rattle.shelves.specs.Contents.{Contents}
use Rattle.rules.specs.States.{new}
use Rattle.rules.specs.Views.{seen, seen_contents}
use Rattle.rules.specs.declared.Refusal.{Refusal}
use Rattle.rules.specs.declared.Sizes.{Sizes}
use Rattle.reports.specs.Cards.{OutcomeOf, ContentsLeft}
use Rattle.reports.specs.Report.{reported}
use Rattle.reports.specs.declared.InputRefusal.{InputRefusal}
use Rattle.reports.specs.declared.cards.Cards.{Cards}
use Rattle.reports.specs.declared.receipt.Receipt.{Receipt}

-- the head's k, p, n and m
abbrev pub head_sizes : Head → Sizes
head_sizes h = record { data_rows = h.data_rows; parity_rows = h.parity_rows; block_length = h.block_length; card_length = h.card_length }

-- intake of a new tray of these sizes over the image shelf of a field
abbrev pub ImageOutcome : FieldKind → Sizes → List ℕ → Result Cards Refusal → Type 0
ImageOutcome Byte sizes bytes o = OutcomeOf byte_algebra (seen byte_meaning sizes (byte_image bytes)) o
ImageOutcome Counter sizes bytes o = OutcomeOf counter_algebra (seen counter_meaning sizes (counter_image bytes)) o

abbrev pub ReceiptOf : List ℕ → Result Head InputRefusal → Result Receipt InputRefusal → Type 0
ReceiptOf bytes (Err r) receipt = receipt ≡ Err r
ReceiptOf bytes (Ok h) receipt = (o : Result Cards Refusal) × (receipt ≡ Ok (record { head = h; intake = o })) × ImageOutcome h.field (head_sizes h) bytes o

-- the receipt of an input, or the refusal of one that is no image; there is only one
abbrev pub Received : List ℕ → Result Receipt InputRefusal → Type 0
Received bytes receipt = ReceiptOf bytes (reported bytes) receipt

abbrev pub OnlyReceipt : List ℕ → Result Receipt InputRefusal → Type 0
OnlyReceipt bytes receipt = (other : Result Receipt InputRefusal) → Received bytes other → other ≡ receipt

-- What is left of an image's bytes: the contents that intake promises, by puts alone; and every byte where it was refused.
pub record BytesLeft {A : Type 0} (F : Field A) (kind width : ℕ) (image : List ℕ → Contents A) (sizes : Sizes) (before : List ℕ) (o : Result Cards Refusal) (after : List ℕ) : Type 0 where
  pub contents : ContentsLeft F (new sizes (image before)) o (image after)
  pub puts : BytesPut kind width F.size before after
  pub refused : OnErr o (after ≡ before)

abbrev pub ImageLeft : FieldKind → Sizes → List ℕ → Result Cards Refusal → List ℕ → Type 0
ImageLeft Byte sizes before o after = BytesLeft byte_algebra 1 1 (λ bytes. seen_contents byte_meaning (byte_image bytes)) sizes before o after
ImageLeft Counter sizes before o after = BytesLeft counter_algebra 2 3 (λ bytes. seen_contents counter_meaning (counter_image bytes)) sizes before o after

-- What is left of an input: all of it where it is no image.
abbrev pub InputLeft : List ℕ → List ℕ → Result Receipt InputRefusal → Type 0
InputLeft before after (Err r) = after ≡ before
InputLeft before after (Ok receipt) = ImageLeft receipt.head.field (head_sizes receipt.head) before receipt.intake after
