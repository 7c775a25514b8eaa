-- A write, one symbol after the other.
use Rattle.std.proofs.Common.{◌≡◌, ℕ, suc, ◌+◌, ◌<◌, ◌≤◌, cond, List, [], ◌∷◌, ◌++◌, length, take, get_or, sym, refl, ap, ◌∙◌, ap₂, add-zero, arith, length-take, take_all}
use mathlib.Core.Path.{fun_ext}
use Rattle.std.specs.Prelude.{map}
use Rattle.std.proofs.lemmas.List.{map-append, length-map}
use Rattle.std.proofs.Math.Seq.{take-suc}
use Rattle.algebra.specs.Algebra.{Field, minus}
use Rattle.algebra.proofs.Cases.{by_cases}
use Rattle.shelves.specs.Contents.{Contents, Cell, hole, is_hole, inside}
use Rattle.shelves.proofs.Contents.{hole_is, same_contents}
use Rattle.rules.specs.States.{State, p, n, cell, with_cells, symbol_or}
use Rattle.rules.specs.Updates.{weight, own_change, touched, written_one, written}
use Rattle.rules.specs.Views.{seen, seen_contents, same_hole}
use Rattle.rules.specs.declared.Sizes.{Sizes}
use Rattle.writes.specs.Steps.{Puts, Writable, OneWritten, AllWritten, cells_of}
use Rattle.writes.specs.Weights.{Column}
use Rattle.writes.proofs.Growing.{hole_chosen, still_readable}

module _ {A : Type 0} (F : Field A) (s : State A) (row : ℕ) where
  one_hole : (t : ℕ) (x : A) (cells : ℕ → ℕ → Cell A) (r u : ℕ) → is_hole (written_one F s row t x cells r u) ≡ is_hole (cells r u)
  one_hole t x cells r u =
      hole_chosen F s (touched s row t r u) (F.mul (weight F s t u) (own_change F s row (minus F x (symbol_or F.zer (cells row t))) r)) (cells r u)

  written_hole : (xs : List A) (t : ℕ) (cells : ℕ → ℕ → Cell A) (r u : ℕ) → is_hole (written F s row t xs cells r u) ≡ is_hole (cells r u)
  written_hole [] t cells r u = refl
  written_hole (x ∷ xs) t cells r u = written_hole xs (t + 1) (written_one F s row t x cells) r u ∙ one_hole t x cells r u

  -- the last symbol by itself
  written_last : (xs : List A) (x : A) (t : ℕ) (cells : ℕ → ℕ → Cell A) → written F s row t (xs ++ (x ∷ [])) cells ≡ written_one F s row (t + length xs) x (written F s row t xs cells)
  written_last [] x t cells = ap (λ (v : ℕ). written_one F s row v x cells) (sym (add-zero t))
  written_last (y ∷ xs) x t cells =
      let e : t + 1 + length xs ≡ t + suc (length xs) = omega arith in
      written_last xs x (t + 1) (written_one F s row t y cells)
      ∙ ap (λ (v : ℕ). written_one F s row v x (written F s row (t + 1) xs (written_one F s row t y cells))) e

module _ {X A : Type 0} (F : Field A) (meaning : X → A) (sizes : Sizes) (before : Contents X) (row : ℕ) where
  abbrev s : State A
  s = seen meaning sizes before

  still_writable : {when : Type 0} {cells : ℕ → ℕ → Cell A} {after : Contents X} → Puts meaning when cells before after → when
      → ((r u : ℕ) → is_hole (cells r u) ≡ is_hole (cells_of meaning before r u)) → Writable F meaning sizes before row → Writable F meaning sizes after row
  still_writable {after = after} puts met same w =
      let own = still_readable F meaning sizes row puts met (same row) w.own in
      record {
        fitting = own.fitting;
        inside = w.inside;
        own = own;
        parity = λ i l. still_readable F meaning sizes (sizes.data_rows + i) puts met (same (sizes.data_rows + i)) (w.parity i l);
      }

  -- one symbol more
  pub written_more : (start i place : ℕ) (symbols : List X) (x : X) (column : List ℕ) (now_held after : Contents X) → i < length symbols → x ≡ get_or symbols i x
      → (start + length symbols ≤ n s → Writable F meaning sizes before row → place ≡ start + i) → (Writable F meaning sizes before row → Column F row (p s) column)
      → Puts meaning (Writable F meaning sizes before row × (start + length symbols ≤ n s)) (written F s row start (map meaning (take i symbols)) (cells_of meaning before)) before now_held
      → OneWritten F meaning sizes row place column (meaning x) now_held after
      → Puts meaning (Writable F meaning sizes before row × (start + length symbols ≤ n s)) (written F s row start (map meaning (take (i + 1) symbols)) (cells_of meaning before)) before after
  written_more start i place symbols x column now_held after h is there known held put = record {
    rows = put.rows ∙ held.rows;
    places = put.places ∙ held.places;
    at = λ met r u.
        let at = there met.1 met.0 in
        put.at (
          still_writable held met (λ a b. written_hole F s row (map meaning (take i symbols)) start (cells_of meaning before) a b) met.0,
          omega (arith, at, met.1),
          known met.0,
        ) r u
        ∙ ap₂ (λ (v : ℕ) (c : ℕ → ℕ → Cell A). written_one F s row v (meaning x) c r u) (at ∙ ap (λ (v : ℕ). start + v) (sym so_many)) (fun_ext λ a. fun_ext λ b. held.at met a b)
        ∙ sym (ap (λ c. c r u) (written_last F s row (map meaning (take i symbols)) (meaning x) start (cells_of meaning before)))
        ∙ ap (λ xs. written F s row start xs (cells_of meaning before) r u) (sym taken);
  }
    where
      so_many : length (map meaning (take i symbols)) ≡ i
      so_many = length-map (take i symbols) meaning ∙ (let t = length-take i symbols in omega arith)

      taken : map meaning (take (i + 1) symbols) ≡ map meaning (take i symbols) ++ (meaning x ∷ [])
      taken =
          let one : i + 1 ≡ suc i = omega arith in
          ap (λ (v : ℕ). map meaning (take v symbols)) one ∙ ap (map meaning) (take-suc symbols i x h ∙ ap (λ y. take i symbols ++ (y ∷ [])) (sym is))
          ∙ map-append meaning (take i symbols) (x ∷ [])

  -- all symbols
  pub all_written : (start i : ℕ) (symbols : List X) (after : Contents X) → length symbols ≤ i
      → Puts meaning (Writable F meaning sizes before row × (start + length symbols ≤ n s)) (written F s row start (map meaning (take i symbols)) (cells_of meaning before)) before after
      → AllWritten F meaning sizes row start (map meaning symbols) before after
  all_written start i symbols after all held = record {
    rows = held.rows;
    places = held.places;
    symbols = λ w room.
        same_contents (seen_contents meaning after) (with_cells s (written F s row start (map meaning symbols) (cell s))).contents held.rows held.places
        (λ r u. held.at (w, (let l = length-map symbols meaning in omega arith)) r u
        ∙ ap (λ xs. written F s row start xs (cells_of meaning before) r u) (ap (map meaning) (take_all i symbols all)) ∙ filled_cell r u);
  }
    where
      xs : List A
      xs = map meaning symbols

      filled_cell : (r u : ℕ) → written F s row start (map meaning symbols) (cells_of meaning before) r u
          ≡ cond (inside before r u) (written F s row start (map meaning symbols) (cell s) r u) hole
      filled_cell r u =
          by_cases (inside before r u) (λ i. rw i)
          (λ o. rw o (hole_is _ (written_hole F s row (map meaning symbols) start (cells_of meaning before) r u ∙ same_hole meaning (before.at r u) ∙ before.beyond r u o)))
