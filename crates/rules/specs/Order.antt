-- In which places a call puts, and in which order.
use Rattle.std.specs.Prelude.{ℕ, zero, suc, ◌+◌, cond, List, [], ◌∷◌, ◌++◌}
use Rattle.algebra.specs.Algebra.{Field}
use Rattle.shelves.specs.Puts.{places_of}
use Rattle.rules.specs.States.{State, sound}
use Rattle.rules.specs.declared.Sizes.{Sizes}

module _ (sizes : Sizes) where
  -- Intake: the cards of all rows below one, row after row.
  abbrev pub card_places : ℕ → List (ℕ × ℕ)
  card_places zero = []
  card_places (suc row) = card_places row ++ places_of row sizes.block_length sizes.card_length

  -- what a write's change of one row puts: the symbol at a place, and then the row's card from component 0 on
  abbrev pub row_places : ℕ → ℕ → List (ℕ × ℕ)
  row_places row place = (row, place) ∷ places_of row sizes.block_length sizes.card_length

  -- one symbol: its data row, and then so many parity rows upward
  abbrev pub symbol_places : ℕ → ℕ → ℕ → List (ℕ × ℕ)
  symbol_places row place zero = row_places row place
  symbol_places row place (suc i) = symbol_places row place i ++ row_places (sizes.data_rows + i) place

  -- Write: so many symbols from a start on, one after another.
  abbrev pub written_places : ℕ → ℕ → ℕ → List (ℕ × ℕ)
  written_places row start zero = []
  written_places row start (suc i) = written_places row start i ++ symbol_places row (start + i) sizes.parity_rows

  -- a whole row: its block, and then its card
  abbrev pub whole_places : ℕ → List (ℕ × ℕ)
  whole_places row = places_of row 0 sizes.block_length ++ places_of row sizes.block_length sizes.card_length

-- Mend: the rows below one that are not sound, one whole row after another.
abbrev pub mended_places : {A : Type 0} → Field A → State A → ℕ → List (ℕ × ℕ)
mended_places F s zero = []
mended_places F s (suc row) = mended_places F s row ++ cond (sound F s row) [] (whole_places s.sizes row)
