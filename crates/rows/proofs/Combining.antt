-- A combination, one data row after the other.
use Rattle.std.proofs.Common.{◌≡◌, ℕ, ◌+◌, ◌≤◌, min, List, Bool, not, eqb, sym, ap, ◌∙◌, ap₂, subst, arith, add-one}
use Rattle.algebra.specs.Algebra.{Field}
use Rattle.algebra.specs.Theorems.{coefficient}
use Rattle.rules.specs.Codes.{combination}
use Rattle.rules.specs.States.{misfit}
use Rattle.rules.specs.Views.{element_at, seen}
use Rattle.rules.specs.declared.Sizes.{Sizes}
use Rattle.shelves.specs.Contents.{Contents}
use Rattle.rows.specs.Weights.{Coefficients}

pub combination_more : {A : Type 0} (F : Field A) (count : ℕ) (column : ℕ → A) (i : ℕ)
    → F.add (combination F count column i) (F.mul (coefficient F i count) (column count)) ≡ combination F (count + 1) column i
combination_more F count column i = rw (add-one count)

-- of no more rows than a table has
pub combined_few : {A : Type 0} (F : Field A) {x : A} (numbers : List ℕ) (column : ℕ → A) (data_rows i : ℕ) → data_rows ≤ 64 → Coefficients F i data_rows numbers
    → (Coefficients F i (min data_rows 64) numbers → x ≡ combination F (min data_rows 64) column i) → x ≡ combination F data_rows column i
combined_few F {x = x} numbers column data_rows i small known at =
    let e : min data_rows 64 ≡ data_rows = omega arith in
    subst (λ v. x ≡ combination F v column i) e (at (subst (λ v. Coefficients F i v numbers) (sym e) known))

-- whether a parity row does not fit, from what a program compared
module _ {X A : Type 0} (F : Field A) (meaning : X → A) (sizes : Sizes) (held : Contents X) where
  pub misfit_is : (i start t place row : ℕ) (x y : A) (b : Bool) → place ≡ start + t → row ≡ sizes.data_rows + i
      → x ≡ combination F sizes.data_rows (λ j. element_at F meaning held j place) i → y ≡ element_at F meaning held row place
      → b ≡ eqb (F.number x) (F.number y) → misfit F (seen meaning sizes held) i (start + t) ≡ not b
  misfit_is i start t place row x y b there at xs ys e =
      ap (misfit F (seen meaning sizes held) i) (sym there)
      ∙ sym (ap not (e ∙ ap₂ (λ (v w : ℕ). eqb v w) (ap F.number xs) (ap F.number (ys ∙ ap (λ r. element_at F meaning held r place) at))))
