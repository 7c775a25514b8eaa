-- What a shelf shows of a tray: a program's symbols, seen as elements of the field.
use Rattle.std.specs.Prelude.{◌≡◌, ℕ, refl}
use Rattle.std.proofs.Common.{◌∙◌}
use Rattle.algebra.specs.Algebra.{Field}
use Rattle.shelves.specs.Contents.{Contents, Cell, symbol, hole, is_hole}
use Rattle.rules.specs.States.{State, new, symbol_or}
use Rattle.rules.specs.declared.Sizes.{Sizes}

module _ {X A : Type 0} (meaning : X → A) where
  abbrev pub seen_cell : Cell X → Cell A
  seen_cell (symbol x) = symbol (meaning x)
  seen_cell hole = hole

  pub same_hole : (c : Cell X) → is_hole (seen_cell c) ≡ is_hole c
  same_hole (symbol x) = refl
  same_hole hole = refl

  abbrev pub seen_contents : Contents X → Contents A
  seen_contents c = record {
    rows = c.rows;
    places = c.places;
    at = λ row place. seen_cell (c.at row place);
    beyond = λ row place e. same_hole (c.at row place) ∙ c.beyond row place e;
  }

  -- a new tray of these sizes over a shelf with these contents
  abbrev pub seen : Sizes → Contents X → State A
  seen sizes c = new sizes (seen_contents c)

-- the element at a place of a shelf, and zero where there is none
abbrev pub element_at : {X A : Type 0} → Field A → (X → A) → Contents X → ℕ → ℕ → A
element_at F meaning c row place = symbol_or F.zer (seen_cell meaning (c.at row place))
