-- The worked examples, by the numbers of the elements.
use Rattle.std.specs.Prelude.{◌≡◌, List, [], ◌∷◌, ℕ, get_or}
use Rattle.algebra.specs.Algebra.{Field}
use Rattle.algebra.specs.Below.{Below}
use Rattle.algebra.specs.Theorems.{coefficient}
use Rattle.byte_field.specs.Meaning.{byte_algebra}
use Rattle.counter_field.specs.Meaning.{counter_algebra}
use Rattle.rules.specs.Codes.{component, combination}
use Rattle.rules.specs.States.{State, new, cell, symbol_or}
use Rattle.rules.specs.Updates.{written}
use Rattle.shelves.specs.Contents.{filled, symbol}

module _ {q : ℕ} (F : Field (Below q)) where
  -- the number of a product and of an inverse, by the numbers of the elements
  abbrev product : ℕ → ℕ → ℕ
  product a b = F.number (F.mul (F.element a) (F.element b))

  abbrev inverse : ℕ → ℕ
  inverse a = F.number (F.inv (F.element a))

  -- a block, by the numbers of its symbols
  abbrev block : List ℕ → ℕ → Below q
  block numbers i = F.element (get_or numbers i 0)

  -- component c of the card of a block of three symbols
  abbrev card : List ℕ → ℕ → ℕ
  card numbers c = F.number (component F 3 (block numbers) c)

  abbrev g : ℕ → ℕ → ℕ
  g i j = F.number (coefficient F i j)

  -- what parity row i holds where two data rows hold x and y
  abbrev parity : ℕ → ℕ → ℕ → ℕ
  parity i x y = F.number (combination F 2 (block (x ∷ y ∷ [])) i)

-- what the example image holds once intake has put its cards: two data rows, two parity rows, blocks of three, cards of two
abbrev example_rows : List (List ℕ)
example_rows = (1 ∷ 2 ∷ 3 ∷ 0 ∷ 9 ∷ []) ∷ (4 ∷ 0 ∷ 0 ∷ 4 ∷ 4 ∷ []) ∷ (5 ∷ 2 ∷ 3 ∷ 4 ∷ 13 ∷ []) ∷ (163 ∷ 81 ∷ 247 ∷ 5 ∷ 250 ∷ []) ∷ []

abbrev example : State (Below 256)
example = new (record { data_rows = 2; parity_rows = 2; block_length = 3; card_length = 2 })
    (filled 4 5 (λ row place. symbol (byte_algebra.element (get_or (get_or example_rows row []) place 0))))

-- the number at a place after 7 is written at row 0, place 1
abbrev after_seven : ℕ → ℕ → ℕ
after_seven row place = byte_algebra.number (symbol_or byte_algebra.zer (written byte_algebra example 0 1 (byte_algebra.element 7 ∷ []) (cell example) row place))

pub record WorkedExamples : Type 0 where
  pub byte_2_by_128 : product byte_algebra 2 128 ≡ 29
  pub byte_5_by_166 : product byte_algebra 5 166 ≡ 4
  pub counter_65536_squared : product counter_algebra 65536 65536 ≡ 1
  pub counter_inverse_of_3 : inverse counter_algebra 3 ≡ 21846
  -- the block 1 2 3
  pub byte_card_0 : card byte_algebra (1 ∷ 2 ∷ 3 ∷ []) 0 ≡ 0
  pub byte_card_1 : card byte_algebra (1 ∷ 2 ∷ 3 ∷ []) 1 ≡ 9
  pub byte_card_2 : card byte_algebra (1 ∷ 2 ∷ 3 ∷ []) 2 ≡ 57
  pub counter_card_0 : card counter_algebra (1 ∷ 2 ∷ 3 ∷ []) 0 ≡ 6
  pub counter_card_1 : card counter_algebra (1 ∷ 2 ∷ 3 ∷ []) 1 ≡ 34
  pub counter_card_2 : card counter_algebra (1 ∷ 2 ∷ 3 ∷ []) 2 ≡ 262
  -- 7 7 0 differs from 1 2 3 in three places and has the same first two components
  pub same_card_0 : card byte_algebra (7 ∷ 7 ∷ 0 ∷ []) 0 ≡ 0
  pub same_card_1 : card byte_algebra (7 ∷ 7 ∷ 0 ∷ []) 1 ≡ 9
  pub byte_g_1_0 : g byte_algebra 1 0 ≡ 166
  pub byte_g_1_1 : g byte_algebra 1 1 ≡ 70
  pub counter_g_1_0 : g counter_algebra 1 0 ≡ 21847
  pub counter_g_1_1 : g counter_algebra 1 1 ≡ 49154
  -- the parity rows of the example image fit: data rows 1 2 3 and 4 0 0
  pub fits_0_0 : parity byte_algebra 0 1 4 ≡ 5
  pub fits_0_1 : parity byte_algebra 0 2 0 ≡ 2
  pub fits_0_2 : parity byte_algebra 0 3 0 ≡ 3
  pub fits_1_0 : parity byte_algebra 1 1 4 ≡ 163
  pub fits_1_1 : parity byte_algebra 1 2 0 ≡ 81
  pub fits_1_2 : parity byte_algebra 1 3 0 ≡ 247
  -- writing 7 at row 0, place 1 of it
  pub seven_card_0 : after_seven 0 3 ≡ 5
  pub seven_card_1 : after_seven 0 4 ≡ 3
  pub seven_parity_0 : after_seven 2 1 ≡ 7
  pub seven_parity_1 : after_seven 3 1 ≡ 85
