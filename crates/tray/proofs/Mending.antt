-- From what mend found to its promise.
use Rattle.std.proofs.Common.{◌≡◌, ℕ, ◌+◌, ◌-◌, ◌^◌, ◌<◌, ◌≤◌, true, min, Some, None, Option, sym, ◌∙◌, arith}
use Rattle.rules.proofs.Found.{lowest_pair_some}
use Rattle.rules.proofs.Rows.{fitting}
use Rattle.rules.proofs.Working.{worked_blocks, worked_exist}
use borrow.Author.Tests.{both_ways}
use Rattle.algebra.specs.Algebra.{Field}
use Rattle.shelves.specs.Contents.{Contents}
use Rattle.rules.specs.Calls.{mend, mended, refused, rank}
use Rattle.rules.specs.Promises.{Line, unfit, early, misfit_mend, too_many, Promise, rejected, accepted, did_mend}
use Rattle.rules.specs.Search.{lowest_pair}
use Rattle.rules.specs.States.{State, new, k, p, n, fits, unsound_count, with_cells}
use Rattle.rules.specs.Updates.{Worked, worked_misfit, mended_cells}
use Rattle.rules.specs.declared.Refusal.{Refusal}
use Rattle.rules.specs.declared.Refusal.TheVariants.{Misfit, TooManyUnsound}
use Rattle.tray.proofs.Answering.{with_contents}

-- blocks are worked for a tray as much as for a new one with the same sizes and contents
worked_new : {A : Type 0} (F : Field A) (s : State A) (blocks : ℕ → ℕ → A) → Worked F s blocks → Worked F (new s.sizes s.contents) blocks
worked_new F s blocks w = record { keeps = w.keeps; solves = w.solves }

new_worked : {A : Type 0} (F : Field A) (s : State A) (blocks : ℕ → ℕ → A) → Worked F (new s.sizes s.contents) blocks → Worked F s blocks
new_worked F s blocks w = record { keeps = w.keeps; solves = w.solves }

module _ {A : Type 0} (F : Field A) (s : State A) (e : fits F s ≡ true) (t : s.taken_in ≡ true) where
  before_many : (q : Refusal) → rank q < 8 → Line F s mend q → ⊥
  before_many q less (unfit c ne) = both_ways _ ne e
  before_many q less (early c w ne) = both_ways _ ne t
  before_many q less (too_many many) = omega arith
  before_many q less (misfit_mend blocks i place worked h) = omega arith

  pub mend_many : (count : ℕ) → count ≡ unsound_count F s → p s < count → Promise F s mend (refused (TooManyUnsound count)) s
  mend_many count is many =
      rw is (rejected (TooManyUnsound (unsound_count F s)) (too_many (omega arith)) before_many)

  -- what the search for a misfit found is the same for all blocks that mend could have worked
  module _ (few : unsound_count F s ≤ p s) (found : Option (ℕ × ℕ))
      (is : (blocks : ℕ → ℕ → A) → Worked F (new s.sizes s.contents) blocks → found ≡ lowest_pair (p s) (n s) (worked_misfit F s blocks)) where
    abbrev blocks : ℕ → ℕ → A
    blocks = worked_blocks F (new s.sizes s.contents) e few

    worked : Worked F (new s.sizes s.contents) blocks
    worked = worked_exist F (new s.sizes s.contents) e few

    before_misfit : (q : Refusal) → rank q < 9 → Line F s mend q → ⊥
    before_misfit q less (unfit c ne) = both_ways _ ne e
    before_misfit q less (early c w ne) = both_ways _ ne t
    before_misfit q less (too_many many) = omega arith
    before_misfit q less (misfit_mend blocks i place worked h) = omega arith

    pub mend_misfit : (i place row : ℕ) → row ≡ min (k s + i) (2 ^ 64 - 1) → found ≡ Some (i, place) → Promise F s mend (refused (Misfit row place)) s
    mend_misfit i place row of hit =
        let f = fitting F s e in
        let at = sym (is blocks worked) ∙ hit in
        let low = lowest_pair_some (p s) (n s) (worked_misfit F s blocks) i place at in
        let same : row ≡ k s + i = omega (arith, of, f, low.0) in
        rw same (rejected (Misfit (k s + i) place) (misfit_mend blocks i place (new_worked F s blocks worked) at) before_misfit)

    module _ (none : found ≡ None) where
      no_line : (q : Refusal) → Line F s mend q → ⊥
      no_line q (unfit c ne) = both_ways _ ne e
      no_line q (early c w ne) = both_ways _ ne t
      no_line q (too_many many) = omega arith
      no_line q (misfit_mend blocks i place worked h) =
          let clash : ◌≡◌ {A = Option (ℕ × ℕ)} None (Some (i, place)) = sym none ∙ is blocks (worked_new F s blocks worked) ∙ h in
          cc

      pub mend_done : (count : ℕ) → count ≡ unsound_count F s → (held : Contents A)
          → ((blocks : ℕ → ℕ → A) → Worked F (new s.sizes s.contents) blocks → held ≡ (with_cells s (mended_cells F s blocks)).contents) → Promise F s mend (mended count) (with_contents F s held)
      mend_done count all held put =
          rw (all, put blocks worked) (accepted no_line (did_mend blocks (new_worked F s blocks worked)))
