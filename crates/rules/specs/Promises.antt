-- What each call answers and leaves behind.
use Rattle.std.specs.Prelude.{◌≡◌, ℕ, ◌+◌, ◌<◌, ◌≤◌, true, false, not, List, length, Some, slice_set}
use Rattle.algebra.specs.Algebra.{Field}
use Rattle.shelves.specs.Contents.{is_hole}
use Rattle.rules.specs.Search.{lowest, lowest_pair, counted}
use Rattle.rules.specs.States.{State, unread, k, p, n, m, cell, with_cells, fits, audited, sound, misfit, unsound_count}
use Rattle.rules.specs.Calls.{Call, fit, intake, cross, begin, step, totals, first, mend, audit, record_of, read, write}
use Rattle.rules.specs.Calls.{Answer, done, judged, copied, counts, entry_is, lowest_is, mended, refused, rank, wants_intake}
use Rattle.rules.specs.Updates.{walking, over, entry_sound, entry_bad, allowed, next_round, entry_of, span, carded, written, Worked, worked_misfit, mended_cells}
use Rattle.rules.specs.declared.Entry.TheVariants.{Read}
use Rattle.rules.specs.declared.Refusal.{Refusal}
use Rattle.rules.specs.declared.Refusal.TheVariants.{DoesNotFit, NotTakenIn, TakenInAlready, NoSuchRow, BadSpan, Unsound, Unreadable, Misfit, TooManyUnsound, WrongPhase, StillWalking}
use Rattle.rules.specs.declared.Round.TheVariants.{Walking}

module _ {X : Type 0} (F : Field X) (s : State X) where
  -- A line of the table of refusals holds for a call.
  pub data Line : Call X → Refusal → Type 0 where
    unfit : (c : Call X) → fits F s ≡ false → Line c DoesNotFit
    early : (c : Call X) → wants_intake c ≡ true → s.taken_in ≡ false → Line c NotTakenIn
    again : s.taken_in ≡ true → Line intake TakenInAlready
    no_row : (row : ℕ) → k s + p s ≤ row → Line (audit row) (NoSuchRow row)
    no_record : (row : ℕ) → k s + p s ≤ row → Line (record_of row) (NoSuchRow row)
    no_read : (row start count : ℕ) → k s + p s ≤ row → Line (read row start count) (NoSuchRow row)
    no_write : (row start : ℕ) (symbols : List X) → k s ≤ row → Line (write row start symbols) (NoSuchRow row)
    long_read : (row start count : ℕ) → allowed s start count ≡ false → Line (read row start count) (BadSpan start)
    long_write : (row start : ℕ) (symbols : List X) → allowed s start (length symbols) ≡ false → Line (write row start symbols) (BadSpan start)
    bad_read : (row start count : ℕ) → sound F s row ≡ false → Line (read row start count) (Unsound row (audited F s row))
    bad_write : (row start : ℕ) (symbols : List X) → sound F s row ≡ false → Line (write row start symbols) (Unsound row (audited F s row))
    bad_parity : (row start : ℕ) (symbols : List X) (i : ℕ) → sound F s row ≡ true
        → lowest (p s) (λ h. not (sound F s (k s + h))) ≡ Some i → Line (write row start symbols) (Unsound (k s + i) (audited F s (k s + i)))
    block_hole : (row place : ℕ) → lowest_pair (k s + p s) (n s) (λ r t. is_hole (cell s r t)) ≡ Some (row, place) → Line intake (Unreadable row place)
    card_hole : (row c : ℕ) → lowest_pair (k s + p s) (m s) (λ r t. is_hole (cell s r (n s + t))) ≡ Some (row, c) → Line cross (Unreadable row (n s + c))
    misfit_intake : (i place : ℕ) → lowest_pair (p s) (n s) (misfit F s) ≡ Some (i, place) → Line intake (Misfit (k s + i) place)
    misfit_cross : (i c : ℕ) → lowest_pair (p s) (m s) (λ h t. misfit F s h (n s + t)) ≡ Some (i, c) → Line cross (Misfit (k s + i) (n s + c))
    misfit_mend : (blocks : ℕ → ℕ → X) (i place : ℕ) → Worked F s blocks
        → lowest_pair (p s) (n s) (worked_misfit F s blocks) ≡ Some (i, place)
        → Line mend (Misfit (k s + i) place)
    too_many : p s < unsound_count F s → Line mend (TooManyUnsound (unsound_count F s))
    not_walking : walking s.round ≡ false → Line step WrongPhase
    not_over : over s.round ≡ false → Line totals WrongPhase
    still_walking : (row : ℕ) → s.round ≡ Walking row → Line begin (StillWalking row)

  -- What an accepted call answers and leaves.
  pub data Accepts : Call X → Answer X → State X → Type 0 where
    did_fit : Accepts fit done s
    did_intake : Accepts intake done (record { sizes = s.sizes; contents = (with_cells s (carded F s)).contents; taken_in = true; round = s.round; sheet = s.sheet })
    did_write : (row start : ℕ) (symbols : List X) → Accepts (write row start symbols) done (with_cells s (written F s row start symbols (cell s)))
    did_read : (row start count : ℕ) → Accepts (read row start count) (copied (span F s row start count)) s
    did_audit : (row : ℕ) → Accepts (audit row) (judged (audited F s row)) s
    did_cross : Accepts cross done s
    did_begin : Accepts begin done (record { sizes = s.sizes; contents = s.contents; taken_in = s.taken_in; round = Walking 0; sheet = unread })
    did_step : (row : ℕ) → s.round ≡ Walking row
        → Accepts step (judged (audited F s row)) (record {
          sizes = s.sizes;
          contents = s.contents;
          taken_in = s.taken_in;
          round = next_round s row;
          sheet = record { records = slice_set s.sheet.records row (record { entry = Read (audited F s row) }) };
        })
    did_totals : Accepts totals (counts (counted (k s + p s) (λ r. entry_sound (entry_of s r))) (counted (k s + p s) (λ r. not (entry_sound (entry_of s r))))) s
    did_record : (row : ℕ) → Accepts (record_of row) (entry_is (entry_of s row)) s
    did_first : Accepts first (lowest_is (lowest (k s + p s) (λ r. entry_bad (entry_of s r)))) s
    did_mend : (blocks : ℕ → ℕ → X) → Worked F s blocks → Accepts mend (mended (unsound_count F s)) (with_cells s (mended_cells F s blocks))

  -- The promise: refused by the first line that holds, with nothing changed, or accepted where none holds.
  pub data Promise (c : Call X) : Answer X → State X → Type 0 where
    rejected : (r : Refusal) → Line c r → ((q : Refusal) → rank q < rank r → Line c q → ⊥) → Promise c (refused r) s
    accepted : {answer : Answer X} {after : State X} → ((q : Refusal) → Line c q → ⊥) → Accepts c answer after → Promise c answer after

-- For every state and every call there is an answer with a state after it, and only one.
abbrev pub Answered : {X : Type 0} → Field X → Type 0
Answered {X} F = (s : State X) (c : Call X) → (answer : Answer X) × (s' : State X) × Promise F s c answer s'
    × ((other : Answer X) (t : State X) → Promise F s c other t → (other ≡ answer) × (t ≡ s'))
