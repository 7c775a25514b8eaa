-- What the receipt of an image amounts to.
use Rattle.std.proofs.Common.{◌≡◌, ℕ, ◌+◌, ◌<◌, ◌≤◌, List, [], Ok, Err, Result, min, take, sym, refl, ap, ◌∙◌, subst, ap₂, arith, lt-ltb}
use Rattle.std.proofs.lemmas.List.FromFn.{get_or-map-range_with_len, take-map-range_with_len}
use Rattle.algebra.specs.Algebra.{Field}
use Rattle.byte_field.specs.Meaning.{byte_algebra}
use Rattle.counter_field.specs.Meaning.{counter_algebra}
use Rattle.images.specs.declared.FieldKind.{FieldKind}
use Rattle.images.specs.declared.FieldKind.TheVariants.{Byte, Counter}
use Rattle.images.specs.declared.Head.{Head}
use Rattle.shelves.specs.Contents.{Contents}
use Rattle.rules.specs.Calls.{intake, done}
use Rattle.rules.specs.Promises.{Promise}
use Rattle.rules.specs.States.{State, new, symbol_or, k, p, m}
use Rattle.rules.specs.declared.Refusal.{Refusal}
use Rattle.rules.specs.declared.Sizes.{Sizes}
use Rattle.rules.proofs.Intake.{intake_exact}
use Rattle.rules.proofs.Rows.{fitting}
use Rattle.reports.specs.Cards.{listed, component_number, cards_of, numbers_of, OutcomeOf}
use Rattle.reports.specs.Exact.{signature_numbers, OutcomeExact, ImageExact, ReceiptExact}
use Rattle.reports.specs.Receipt.{head_sizes, ImageOutcome, ReceiptOf, Received}
use Rattle.reports.specs.Report.{reported}
use Rattle.reports.specs.declared.InputRefusal.{InputRefusal}
use Rattle.reports.specs.declared.cards.Card.{Card}
use Rattle.reports.specs.declared.cards.Cards.{Cards}
use Rattle.reports.specs.declared.receipt.Receipt.{Receipt}
use Rattle.reports.proofs.Listing.{listed_same}
use Rattle.reports.proofs.Taking.{card_of, taken_fits}

module _ {A : Type 0} (F : Field A) where
  -- the numbers in the table
  numbers_in : (s : State A) (row : ℕ) → row < 68 → m s ≤ 8 → numbers_of (cards_of F s) row ≡ listed (m s) (component_number F s row)
  numbers_in s row h few =
      let e : min (m s) 8 ≡ m s = omega arith in
      ap₂ (λ v (w : Card). take v w.numbers) e (get_or-map-range_with_len (card_of F s) 0 68 row row (record { numbers = [] }) h (omega arith)) ∙ take-map-range_with_len (component_number F s row) 0 8 (m s) few

  module _ (sizes : Sizes) (contents : Contents A) where
    abbrev s : State A
    s = new sizes contents

    -- after an accepted intake
    signed : (after : State A) → Promise F s intake done after → (row : ℕ) → row < k s + p s → numbers_of (cards_of F after) row ≡ signature_numbers F s row
    signed after promise row h =
        let (same, fit) = taken_fits F s after promise in
        let f = fitting F s fit in
        let stocked = (intake_exact F sizes contents done after promise).1 refl in
        let at : State A = record { sizes = sizes; contents = after.contents; taken_in = after.taken_in; round = after.round; sheet = after.sheet } in
        ap (λ v. numbers_of (cards_of F (new v after.contents)) row) same
        ∙ numbers_in (new sizes after.contents) row (omega arith) f.m_high
        ∙ listed_same (m s) (component_number F (new sizes after.contents) row) _ 0
        (λ c l. rw (lt-ltb row (k s + p s) h, lt-ltb c (m s) l) (ap (λ v. F.number (symbol_or F.zer v)) (stocked.cards row c h l)))

    pub outcome_exact : (o : Result Cards Refusal) → OutcomeOf F s o → OutcomeExact F s o
    outcome_exact (Ok cards) a =
        let e = intake_exact F sizes contents done a.after a.promise in
        let sizes_same = (taken_fits F s a.after a.promise).0 in
        record {
          taken = (λ x. e.0.0 refl, λ d. (cards, refl));
          rows = λ told is. let same : cards ≡ told = cc in sym (ap (λ (v : Cards). v.rows) same) ∙ ap (λ (v : Cards). v.rows) a.cards ∙ ap (λ (v : Sizes). v.data_rows + v.parity_rows) sizes_same;
          cards = λ told is row h. let same : cards ≡ told = cc in ap (λ v. numbers_of v row) (sym same ∙ a.cards) ∙ signed a.after a.promise row h;
        }
    outcome_exact (Err r) a =
        let e = intake_exact F sizes contents _ a.after a.promise in
        record {
          taken = (λ x. let z : ◌≡◌ {A = ℕ} 0 1 = cc in absurd (omega arith), λ d. let y = e.0.1 d in let z : ◌≡◌ {A = ℕ} 0 1 = cc in absurd (omega arith));
          rows = λ told is. let z : ◌≡◌ {A = ℕ} 0 1 = cc in absurd (omega arith);
          cards = λ told is row h. let z : ◌≡◌ {A = ℕ} 0 1 = cc in absurd (omega arith);
        }

image_exact : (f : FieldKind) (sizes : Sizes) (bytes : List ℕ) (o : Result Cards Refusal) → ImageOutcome f sizes bytes o → ImageExact f sizes bytes o
image_exact Byte sizes bytes o a = outcome_exact byte_algebra sizes _ o a
image_exact Counter sizes bytes o a = outcome_exact counter_algebra sizes _ o a

exact_of : (bytes : List ℕ) (report : Result Head InputRefusal) (receipt : Result Receipt InputRefusal) → ReceiptOf bytes report receipt → ReceiptExact bytes receipt
exact_of bytes (Err r) receipt a h o is = let z : ◌≡◌ {A = ℕ} 0 1 = cc in absurd (omega arith)
exact_of bytes (Ok g) receipt (o', is', a) h o is =
    let both : ◌≡◌ {A = Result Receipt InputRefusal} (Ok (record { head = g; intake = o' })) (Ok (record { head = h; intake = o })) = sym is' ∙ is in
    let told : ◌≡◌ {A = Receipt} (record { head = g; intake = o' }) (record { head = h; intake = o }) = cc in
    let same : g ≡ h = ap (λ (v : Receipt). v.head) told in
    let same' : o' ≡ o = ap (λ (v : Receipt). v.intake) told in
    subst (λ (v : Head). ImageExact v.field (head_sizes v) bytes o) same
    (subst (λ (v : Result Cards Refusal). ImageExact g.field (head_sizes g) bytes v) same' (image_exact g.field (head_sizes g) bytes o' a))

pub receipt_exact : (bytes : List ℕ) (receipt : Result Receipt InputRefusal) → Received bytes receipt → ReceiptExact bytes receipt
receipt_exact bytes receipt a = exact_of bytes (reported bytes) receipt a
