-- From what intake answered, and the cards that were read then, to an outcome.
use Rattle.std.proofs.Common.{◌≡◌, ℕ, ◌+◌, ◌≤◌, true, Ok, Err, Result, sym, refl, ap, ◌∙◌, subst, replicate, le-ltb}
use Rattle.std.specs.Result.{MatchResult, IsOkAnd}
use Rattle.algebra.specs.Algebra.{Field}
use Rattle.shelves.specs.Contents.{Contents}
use Rattle.rules.specs.Calls.{Answer, intake, done}
use Rattle.rules.specs.Promises.{Promise, accepted, did_intake, unfit}
use Rattle.rules.specs.States.{State, new, k, p, n, m, fits}
use Rattle.rules.specs.declared.Refusal.{Refusal}
use Rattle.std.proofs.lemmas.Bool.{true_from_ne_false}
use Rattle.rules.proofs.Rows.{fitting}
use Rattle.tray.specs.State.{answer_of}
use Rattle.reports.specs.Cards.{listed, component_number, cards_of, outcome_answer, OutcomeOf, ContentsLeft}
use Rattle.reports.specs.declared.cards.Card.{Card}
use Rattle.reports.specs.declared.cards.Cards.{Cards}

-- a card of zeros
abbrev pub blank : Card
blank = record { numbers = replicate 8 0 }

module _ {A : Type 0} (F : Field A) (s : State A) where
  abbrev pub card_of : ℕ → Card
  card_of row = record { numbers = listed 8 (component_number F s row) }

  -- beyond the rows there are zeros
  pub no_card : (row : ℕ) → k s + p s ≤ row → blank ≡ card_of row
  no_card row h = rw (le-ltb row (k s + p s) h)

module _ {A : Type 0} (F : Field A) where
  pub taken_fits : (s after : State A) → Promise F s intake done after → (after.sizes ≡ s.sizes) × (fits F s ≡ true)
  taken_fits s _ (accepted none did_intake) = (refl, true_from_ne_false _ (λ e. none _ (unfit intake e)))

  -- what a table read from the shelf is, in a state of so few rows and places
  abbrev CardsRead : State A → State A → Cards → Type 0
  CardsRead s after cards = k s ≤ 64 → p s ≤ 4 → n s ≤ 4096 → m s ≤ 8 → cards ≡ cards_of F (new s.sizes after.contents)

  told_taken : (s after : State A) (cards : Cards) → Promise F s intake done after → CardsRead s after cards → OutcomeOf F s (Ok cards)
  told_taken s after cards promise read =
      let (sizes, fit) = taken_fits s after promise in
      let f = fitting F s fit in
      record {
        after = after;
        promise = promise;
        cards = read f.k_high f.p_high f.n_high f.m_high ∙ ap (λ v. cards_of F (new v after.contents)) (sym sizes);
      }

  -- Of what intake answered to a tray made in this state, with the cards read where it was accepted: Q is what is known of them.
  module _ (Q : Unit {0} → Cards → Type 0) (s made after : State A) (is : made ≡ s) (taken : Result (Unit {0}) Refusal) (promised : Promise F made intake (answer_of taken) after) where
    promise : Promise F s intake (answer_of taken) after
    promise = subst (λ (v : State A). Promise F v intake (answer_of taken) after) is promised

    pub told : (o : Result Cards Refusal) → MatchResult taken (λ u. IsOkAnd o (Q u)) (λ r. o ≡ Err r) → ((cards : Cards) → Q tt cards → CardsRead s after cards) → OutcomeOf F s o
    told o known read = by_result taken o known promise
      where
        by_result : (r : Result (Unit {0}) Refusal) (o : Result Cards Refusal) → MatchResult r (λ u. IsOkAnd o (Q u)) (λ q. o ≡ Err q) → Promise F s intake (answer_of r) after → OutcomeOf F s o
        by_result (Ok u) (Ok cards) known p = told_taken s after cards p (read cards known)
        by_result (Ok u) (Err r) known p = absurd known
        by_result (Err r) o known p = subst (OutcomeOf F s) (sym known) (record { after = after; promise = p; cards = tt })

    answers_alike : (r : Result (Unit {0}) Refusal) (o : Result Cards Refusal) → MatchResult r (λ u. IsOkAnd o (Q u)) (λ q. o ≡ Err q) → ◌≡◌ {A = Answer A} (answer_of r) (outcome_answer o)
    answers_alike (Ok u) (Ok cards) known = refl
    answers_alike (Ok u) (Err r) known = absurd known
    answers_alike (Err r) o known = ap outcome_answer (sym known)

    pub left : (o : Result Cards Refusal) → MatchResult taken (λ u. IsOkAnd o (Q u)) (λ r. o ≡ Err r) → (contents : Contents A) → contents ≡ after.contents → ContentsLeft F s o contents
    left o known contents same = record { after = after; promise = subst (λ v. Promise F s intake v after) (answers_alike taken o known) promise; same = same }
