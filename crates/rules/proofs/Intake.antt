-- What intake accepts and leaves: every row equal to its twin.
use Rattle.std.proofs.Common.{◌≡◌, ℕ, ◌+◌, ◌-◌, ◌<◌, false, sym, refl, ap, ◌∙◌, subst, inl, inr, arith}
use Rattle.std.proofs.lemmas.Bool.{true_from_ne_false, lt-ltb, le-leb, lt-leb, cases_lt, both_ways}
use Rattle.algebra.specs.Algebra.{Field}
use Rattle.shelves.specs.Contents.{Contents, symbol, is_hole}
use Rattle.rules.specs.Codes.{table, table_block}
use Rattle.rules.specs.States.{State, new, k, p, n, m, cell, with_cells, symbol_at, misfit}
use Rattle.rules.specs.Calls.{intake, done}
use Rattle.rules.specs.Updates.{carded}
use Rattle.rules.specs.Promises.{Line, unfit, early, again, block_hole, misfit_intake, Promise, rejected, accepted, did_intake}
use Rattle.rules.specs.Twins.{EqualRow}
use Rattle.rules.specs.Exact.{Acceptable, TakenIn, IntakeExact}
use Rattle.rules.specs.declared.Refusal.{Refusal}
use Rattle.rules.specs.declared.Sizes.{Sizes}
use Rattle.rules.proofs.Found.{nothing, lowest_pair_none, lowest_pair_some}
use Rattle.rules.proofs.Kept.{Kept}
use Rattle.rules.proofs.Rows.{readable, read_back, cell_inside}
use Rattle.rules.proofs.Tables.{differ_same, same_differ, component_same, block_data, block_parity, table_place, table_card}

module _ {X : Type 0} (F : Field X) where
  -- where no line holds, the tray can be delivered
  deliverable : (s : State X) → ((q : Refusal) → Line F s intake q → ⊥) → Acceptable F s
  deliverable s none = record {
    fitting = true_from_ne_false _ (λ e. none _ (unfit intake e));
    readable = λ row place h l.
        readable _ (lowest_pair_none _ _ (λ r t. is_hole (cell s r t)) (nothing _ λ x e. none _ (block_hole x.0 x.1 e)) row place h l);
    agreeing = λ i place h l. sym (differ_same F _ _ (lowest_pair_none _ _ (misfit F s) (nothing _ λ x e. none _ (misfit_intake x.0 x.1 e)) i place h l));
  }

  -- and where it can be delivered, no line holds
  pub no_refusal : (s : State X) → s.taken_in ≡ false → Acceptable F s → (q : Refusal) → Line F s intake q → ⊥
  no_refusal s fresh d q (unfit _ e) = both_ways _ e d.fitting
  no_refusal s fresh d q (early _ e _) = both_ways _ refl e
  no_refusal s fresh d q (again e) = both_ways _ fresh e
  no_refusal s fresh d q (block_hole row place e) =
      let f = lowest_pair_some _ _ (λ r t. is_hole (cell s r t)) row place e in
      both_ways _ (ap is_hole (d.readable row place f.0 f.1).1) f.2
  no_refusal s fresh d q (misfit_intake i place e) =
      let f = lowest_pair_some _ _ (misfit F s) i place e in
      both_ways _ (same_differ F _ _ (sym (d.agreeing i place f.0 f.1))) f.2

  module _ (s : State X) (d : Acceptable F s) where
    stocked : TakenIn F s (with_cells s (carded F s))
    stocked = record {
      blocks = λ row place h l.
          cell_inside F s d.fitting (carded F s) row place h (omega arith) ∙ rw (lt-ltb row (k s + p s) h, lt-leb (n s) place l);
      cards = λ row c h l.
          let e : n s + c - n s ≡ c = omega arith in
          cell_inside F s d.fitting (carded F s) row (n s + c) h (omega arith)
          ∙ rw (lt-ltb row (k s + p s) h, le-leb (n s) (n s + c) (omega arith), lt-ltb (n s + c) (n s + m s) (omega arith), e);
    }

    block_twin : (row place : ℕ) → row < k s + p s → place < n s → table_block F (k s) (symbol_at F s) row place ≡ symbol_at F s row place
    block_twin row place h l =
        elim (cases_lt row (k s)) [
          | inl less ↦ block_data F (k s) (symbol_at F s) row place less
          | inr more ↦
              let e : k s + (row - k s) ≡ row = omega arith in
              subst (λ r. table_block F (k s) (symbol_at F s) r place ≡ symbol_at F s r place) e
              (block_parity F (k s) (symbol_at F s) (row - k s) place ∙ sym (d.agreeing (row - k s) place (omega arith) l))
        ]

    pub stocked_equal : (row : ℕ) → row < k s + p s → EqualRow F (symbol_at F s) (with_cells s (carded F s)) row
    stocked_equal row h place l =
        elim (cases_lt place (n s)) [
          | inl less ↦ stocked.blocks row place h less ∙ read_back F.zer (d.readable row place h less)
              ∙ ap symbol (sym (table_place F (k s) (symbol_at F s) (n s) row place less ∙ block_twin row place h less))
          | inr more ↦
              let e : n s + (place - n s) ≡ place = omega arith in
              subst (λ q. cell (with_cells s (carded F s)) row q ≡ symbol (table F (k s) (n s) (symbol_at F s) row q)) e
              (stocked.cards row (place - n s) h (omega arith)
              ∙ ap symbol (sym (table_card F (k s) (symbol_at F s) (n s) row (place - n s) ∙ component_same F (n s) _ _ _ (λ i li. block_twin row i h li))))
        ]

  pub intake_exact : IntakeExact F
  intake_exact sizes contents _ _ (rejected r line first) = (
    (λ e. absurd cc, λ d. absurd (no_refusal (new sizes contents) refl d r line)),
    λ e. absurd cc,
  )
  intake_exact sizes contents _ _ (accepted none did_intake) =
      let d = deliverable (new sizes contents) none in
      let s = stocked (new sizes contents) d in
      ((λ e. d, λ _. refl), λ e. record { blocks = s.blocks; cards = s.cards })

  pub intake_kept : (sizes : Sizes) (contents : Contents X) (s : State X) → Promise F (new sizes contents) intake done s → Kept F (symbol_at F (new sizes contents)) s
  intake_kept sizes contents s (accepted none did_intake) =
      let d = deliverable (new sizes contents) none in
      record { fitting = d.fitting; taken = refl; each_row = λ row h. inl (stocked_equal (new sizes contents) d row h) }
