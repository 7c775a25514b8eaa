-- The example's run, step by step.
use Rattle.std.proofs.Common.{◌≡◌, ℕ, zero, suc, ◌+◌, ◌<◌, true, false, Some, None, List, [], ◌∷◌, refl, ap, subst, subst₂, inl, inr, arith}
use Rattle.std.proofs.lemmas.Bool.{agree_below_at, both_ways}
use Rattle.algebra.specs.Below.{Below}
use Rattle.byte_field.specs.Meaning.{byte_algebra}
use Rattle.rules.specs.Calls.{intake, write, mend, done, mended, refused}
use Rattle.rules.specs.Promises.{Promise, accepted, did_intake, did_write, did_mend}
use Rattle.rules.specs.States.{State, unread, cell, fits, sound, unsound_count}
use Rattle.rules.specs.Twins.{EqualRow, StruckRow, twin_at, holed, Takes, takes, stands, Follows, Damage}
use Rattle.rules.specs.Updates.{carded, written, mended_cells}
use Rattle.rules.specs.declared.Refusal.TheVariants.{BadSpan, Unsound, TooManyUnsound}
use Rattle.rules.specs.declared.Verdict.TheVariants.{Card}
use Rattle.rules.specs.declared.Round.TheVariants.{Resting}
use Rattle.shelves.specs.Contents.{Cell, filled}
use Rattle.rules.proofs.Kept.{Kept}
use Rattle.rules.proofs.Mend.{refused_many, twin_worked}
use Rattle.rules.proofs.Refusals.{refusal, unrefused, refused_promise}
use Rattle.rules.proofs.Rows.{struck_unsound}
use Rattle.rules.proofs.Writing.{none_over}
use Rattle.worked.specs.Run.{example_sizes, held, delivered, tray, stocked, rewritten, broken, partly_right, first_blocks, blocks, Called, Steps, run, ExampleRun}
use Rattle.worked.proofs.Computing.{computing}
use Rattle.worked.proofs.Tested.{each, alike, alike_contents, whole, whole_equal, whole_but, block_struck, card_struck}

-- a tray over these cells holds what these rows hold
tray_holds : (cells : ℕ → ℕ → Cell (Below 256)) (rows : List (List ℕ)) → alike 4 5 cells (held rows) ≡ true
    → ◌≡◌ {A = State (Below 256)} (record { sizes = example_sizes; contents = filled 4 5 cells; taken_in = true; round = Resting; sheet = unread }) (tray rows)
tray_holds cells rows e =
    ap (λ held_now. record { sizes = example_sizes; contents = held_now; taken_in = true; round = Resting; sheet = unread })
    (alike_contents 4 5 cells (held rows) e)

intake_unrefused : refusal byte_algebra delivered intake ≡ None
unfolding computing
intake_unrefused = refl

intake_cells : alike 4 5 (carded byte_algebra delivered) (held stocked) ≡ true
unfolding computing
intake_cells = refl

taken_in : Promise byte_algebra delivered intake done (tray stocked)
taken_in =
    subst (Promise byte_algebra delivered intake done) (tray_holds (carded byte_algebra delivered) stocked intake_cells)
    (accepted (unrefused byte_algebra delivered intake intake_unrefused) did_intake)

write_unrefused : refusal byte_algebra (tray stocked) (write 0 1 (byte_algebra.element 7 ∷ [])) ≡ None
unfolding computing
write_unrefused = refl

write_cells : alike 4 5 (written byte_algebra (tray stocked) 0 1 (byte_algebra.element 7 ∷ []) (cell (tray stocked))) (held rewritten) ≡ true
unfolding computing
write_cells = refl

abbrev seven : List (Below 256)
seven = byte_algebra.element 7 ∷ []

stocked_fits : fits byte_algebra (tray stocked) ≡ true
unfolding computing
stocked_fits = refl

stocked_sound : each 4 (sound byte_algebra (tray stocked)) ≡ true
unfolding computing
stocked_sound = refl

stocked_clear : (row : ℕ) → row < 4 → StruckRow byte_algebra first_blocks (tray stocked) row → ⊥
stocked_clear row l struck =
    struck_unsound byte_algebra (tray stocked) first_blocks row stocked_fits struck (agree_below_at (sound byte_algebra (tray stocked)) (λ _. true) 4 row stocked_sound l)

wrote : Called first_blocks (tray stocked) (write 0 1 seven) done (tray rewritten) blocks
wrote = record {
  promised =
      subst (Promise byte_algebra (tray stocked) (write 0 1 seven) done) (tray_holds (written byte_algebra (tray stocked) 0 1 seven (cell (tray stocked))) rewritten write_cells)
      (accepted (unrefused byte_algebra (tray stocked) (write 0 1 seven) write_unrefused) (did_write 0 1 seven));
  followed = takes 0 1 seven refl (record {
    of_data = omega arith;
    spans = refl;
    row_clear = stocked_clear 0 (omega arith);
    parity_clear = λ i l. stocked_clear (2 + i) (omega arith);
  });
}

abbrev eight : List (Below 256)
eight = byte_algebra.element 8 ∷ []

rewritten_fits : fits byte_algebra (tray rewritten) ≡ true
unfolding computing
rewritten_fits = refl

rewritten_sound : each 4 (sound byte_algebra (tray rewritten)) ≡ true
unfolding computing
rewritten_sound = refl

rewritten_clear : (row : ℕ) → row < 4 → StruckRow byte_algebra blocks (tray rewritten) row → ⊥
rewritten_clear row l struck =
    struck_unsound byte_algebra (tray rewritten) blocks row rewritten_fits struck (agree_below_at (sound byte_algebra (tray rewritten)) (λ _. true) 4 row rewritten_sound l)

empty_unrefused : refusal byte_algebra (tray rewritten) (write 0 3 []) ≡ None
unfolding computing
empty_unrefused = refl

empty_cells : alike 4 5 (cell (tray rewritten)) (held rewritten) ≡ true
unfolding computing
empty_cells = refl

none_written : Called blocks (tray rewritten) (write 0 3 []) done (tray rewritten) blocks
none_written = record {
  promised =
      subst (Promise byte_algebra (tray rewritten) (write 0 3 []) done) (tray_holds (cell (tray rewritten)) rewritten empty_cells)
      (accepted (unrefused byte_algebra (tray rewritten) (write 0 3 []) empty_unrefused) (did_write 0 3 []));
  followed = subst (Follows byte_algebra blocks (tray rewritten) (write 0 3 [])) (none_over blocks 0 3)
      (takes 0 3 [] refl (record {
        of_data = omega arith;
        spans = refl;
        row_clear = rewritten_clear 0 (omega arith);
        parity_clear = λ i l. rewritten_clear (2 + i) (omega arith);
      }));
}

-- a write that the twin does not take
not_taken : (s : State (Below 256)) (row start : ℕ) (xs : List (Below 256)) → (Takes byte_algebra blocks s row start xs → ⊥) → Follows byte_algebra blocks s (write row start xs) blocks
not_taken s row start xs free = stands (λ r t ys e takes.
    let rows : r ≡ row = cc in
    let starts : t ≡ start = cc in
    let symbols : ys ≡ xs = cc in
    free (rw (← rows, ← starts, ← symbols) takes))

span_refused : refusal byte_algebra (tray rewritten) (write 0 3 eight) ≡ Some (BadSpan 3)
unfolding computing
span_refused = refl

none_beyond : Called blocks (tray rewritten) (write 0 3 eight) (refused (BadSpan 3)) (tray rewritten) blocks
none_beyond = record {
  promised = refused_promise byte_algebra (tray rewritten) _ _ span_refused;
  followed = not_taken (tray rewritten) 0 3 eight (λ takes. both_ways false refl takes.spans);
}

broken_0 : whole_but 2 5 (cell (tray broken) 0) (twin_at byte_algebra blocks (tray broken) 0) ≡ true
unfolding computing
broken_0 = refl

broken_2 : whole 5 (cell (tray broken) 2) (twin_at byte_algebra blocks (tray broken) 2) ≡ true
unfolding computing
broken_2 = refl

broken_3 : whole_but 4 5 (cell (tray broken) 3) (twin_at byte_algebra blocks (tray broken) 3) ≡ true
unfolding computing
broken_3 = refl

struck_0 : StruckRow byte_algebra blocks (tray broken) 0
struck_0 = block_struck 3 2 (cell (tray broken) 0) (twin_at byte_algebra blocks (tray broken) 0) 2 broken_0 (omega arith) (omega arith)

damaged : Damage byte_algebra blocks (tray rewritten) (held broken)
damaged zero l = inr struck_0
damaged (suc zero) l = inr (holed 0 (omega arith) refl)
damaged (suc (suc zero)) l = inl (whole_equal 3 2 (cell (tray broken) 2) (twin_at byte_algebra blocks (tray broken) 2) broken_2)
damaged (suc (suc (suc zero))) l = inr (card_struck 3 2 (cell (tray broken) 3) (twin_at byte_algebra blocks (tray broken) 3) 4 broken_3 (omega arith) (omega arith))
damaged (suc (suc (suc (suc row)))) l = absurd (omega arith)

eight_refused : refusal byte_algebra (tray broken) (write 0 0 eight) ≡ Some (Unsound 0 (Card 0))
unfolding computing
eight_refused = refl

not_written : Called blocks (tray broken) (write 0 0 eight) (refused (Unsound 0 (Card 0))) (tray broken) blocks
not_written = record {
  promised = refused_promise byte_algebra (tray broken) _ _ eight_refused;
  followed = not_taken (tray broken) 0 0 eight (λ takes. takes.row_clear struck_0);
}

mend_refused : refusal byte_algebra (tray broken) mend ≡ Some (TooManyUnsound 3)
unfolding computing
mend_refused = refl

-- mend is no write
mend_stands : (s : State (Below 256)) → Follows byte_algebra blocks s mend blocks
mend_stands s = stands (λ row start xs e takes. let z : ◌≡◌ {A = ℕ} 0 1 = cc in absurd (omega arith))

not_mended : Called blocks (tray broken) mend (refused (TooManyUnsound 3)) (tray broken) blocks
not_mended = record { promised = refused_promise byte_algebra (tray broken) _ _ mend_refused; followed = mend_stands (tray broken) }

relieved_0 : whole 5 (cell (tray partly_right) 0) (twin_at byte_algebra blocks (tray partly_right) 0) ≡ true
unfolding computing
relieved_0 = refl

relieved_2 : whole 5 (cell (tray partly_right) 2) (twin_at byte_algebra blocks (tray partly_right) 2) ≡ true
unfolding computing
relieved_2 = refl

relieved_3 : whole_but 4 5 (cell (tray partly_right) 3) (twin_at byte_algebra blocks (tray partly_right) 3) ≡ true
unfolding computing
relieved_3 = refl

lessened : Damage byte_algebra blocks (tray broken) (held partly_right)
lessened zero l = inl (whole_equal 3 2 (cell (tray partly_right) 0) (twin_at byte_algebra blocks (tray partly_right) 0) relieved_0)
lessened (suc zero) l = inr (holed 0 (omega arith) refl)
lessened (suc (suc zero)) l = inl (whole_equal 3 2 (cell (tray partly_right) 2) (twin_at byte_algebra blocks (tray partly_right) 2) relieved_2)
lessened (suc (suc (suc zero))) l = inr (card_struck 3 2 (cell (tray partly_right) 3) (twin_at byte_algebra blocks (tray partly_right) 3) 4 relieved_3 (omega arith) (omega arith))
lessened (suc (suc (suc (suc row)))) l = absurd (omega arith)

relieved_fits : fits byte_algebra (tray partly_right) ≡ true
unfolding computing
relieved_fits = refl

two_unsound : unsound_count byte_algebra (tray partly_right) ≡ 2
unfolding computing
two_unsound = refl

mend_cells : alike 4 5 (mended_cells byte_algebra (tray partly_right) blocks) (held rewritten) ≡ true
unfolding computing
mend_cells = refl

kept : Kept byte_algebra blocks (tray partly_right)
kept = record { fitting = relieved_fits; taken = refl; each_row = lessened }

mended_two : Called blocks (tray partly_right) mend (mended 2) (tray rewritten) blocks
mended_two = record {
  promised =
      subst₂ (λ count t. Promise byte_algebra (tray partly_right) mend (mended count) t) two_unsound
      (tray_holds (mended_cells byte_algebra (tray partly_right) blocks) rewritten mend_cells)
      (accepted (λ q line. omega (arith, two_unsound, refused_many byte_algebra (tray partly_right) blocks kept line))
      (did_mend blocks (twin_worked byte_algebra (tray partly_right) blocks kept)));
  followed = mend_stands (tray partly_right);
}

rewritten_whole : each 4 (λ row. whole 5 (cell (tray rewritten) row) (twin_at byte_algebra blocks (tray rewritten) row)) ≡ true
unfolding computing
rewritten_whole = refl

equal : (row : ℕ) → row < 4 → EqualRow byte_algebra blocks (tray rewritten) row
equal row l =
    whole_equal 3 2 (cell (tray rewritten) row) (twin_at byte_algebra blocks (tray rewritten) row)
    (agree_below_at (λ r. whole 5 (cell (tray rewritten) r) (twin_at byte_algebra blocks (tray rewritten) r)) (λ _. true) 4 row rewritten_whole l)

steps : Steps
steps = record {
  taken_in = taken_in;
  written = wrote;
  none_written = none_written;
  none_beyond = none_beyond;
  damaged = damaged;
  not_written = not_written;
  not_mended = not_mended;
  lessened = lessened;
  mended_two = mended_two;
  equal = equal;
}

pub example_run : ExampleRun
example_run = record { steps = steps; whole = run steps; of_steps = refl }
