-- Equal symbols, sums of symbols with weights, and the parts of a table.
use Rattle.std.proofs.Common.{◌≡◌, ℕ, ◌+◌, ◌-◌, ◌<◌, Bool, true, false, cond, ◌≢◌, sym, refl, ap, ◌∙◌, arith}
use Rattle.std.proofs.lemmas.Bool.{lt-ltb, le-ltb, ltb-true, eqb-true, eq-eqb, not-false, not_from_true}
use Rattle.algebra.specs.Algebra.{Field}
use Rattle.algebra.proofs.Ring.{ring, add_cancel, mul_left_comm}
use Rattle.algebra.specs.Sum.{sum_to}
use Rattle.algebra.proofs.Sums.{sum_update, sum_below, sum_mul, sum_exchange}
use Rattle.rules.specs.Codes.{component, combination, differ, table, table_block}

cond_same : {X : Type 0} (b : Bool) {x x' y y' : X} → (b ≡ true → x ≡ x') → y ≡ y' → cond b x y ≡ cond b x' y'
cond_same true e f = e refl
cond_same false e f = f

module _ {X : Type 0} (F : Field X) where
  infixl 60 ◌⊕◌
  infixl 70 ◌⊙◌
  open F use {add as ◌⊕◌, mul as ◌⊙◌}

  pub differ_same : (x y : X) → differ F x y ≡ false → x ≡ y
  differ_same x y e = sym (F.element_number x) ∙ ap F.element (eqb-true _ _ (not-false _ e)) ∙ F.element_number y

  pub same_differ : (x y : X) → x ≡ y → differ F x y ≡ false
  same_differ x y e = not_from_true _ (eq-eqb _ _ (ap F.number e))

  -- One symbol moved by d: the weighted sum moves by its weight times d.
  pub sum_shift : (n : ℕ) (w u v : ℕ → X) (t : ℕ) (d : X) → t < n → v t ≡ u t ⊕ d → ((i : ℕ) → i < n → i ≢ t → v i ≡ u i)
      → sum_to F n (λ i. w i ⊙ v i) ≡ sum_to F n (λ i. w i ⊙ u i) ⊕ w t ⊙ d
  sum_shift n w u v t d h here there =
      add_cancel F _ _ (w t ⊙ u t)
      (sum_update F n _ _ t h (λ i l ne. ap (λ x. w i ⊙ x) (there i l ne)) ∙ rw here (simp ring))

  -- The same symbols have the same card and the same combination.
  pub component_same : (count : ℕ) (f g : ℕ → X) (c : ℕ) → ((i : ℕ) → i < count → f i ≡ g i) → component F count f c ≡ component F count g c
  component_same count f g c e = sum_below F count _ _ λ i h. ap (F.mul _) (e i h)

  pub combination_same : (count : ℕ) (f g : ℕ → X) (i : ℕ) → ((j : ℕ) → j < count → f j ≡ g j) → combination F count f i ≡ combination F count g i
  combination_same count f g i e = sum_below F count _ _ λ j h. ap (F.mul _) (e j h)

  -- The card of a combination is the combination of the cards.
  pub component_combination : (count rows : ℕ) (x : ℕ → ℕ → X) (i c : ℕ)
      → component F count (λ t. combination F rows (λ j. x j t) i) c ≡ combination F rows (λ j. component F count (x j) c) i
  component_combination count rows x i c =
      sum_below F count _ _ (λ t h. sym (sum_mul F rows _ _)) ∙ sum_exchange F count rows _
      ∙ sum_below F rows _ _ (λ j h. sum_below F count _ _ (λ t l. mul_left_comm F _ _ _) ∙ sum_mul F count _ _)

  module _ (data_rows : ℕ) (blocks : ℕ → ℕ → X) where
    pub block_data : (row place : ℕ) → row < data_rows → table_block F data_rows blocks row place ≡ blocks row place
    block_data row place h = rw (lt-ltb row data_rows h)

    pub block_parity : (i place : ℕ) → table_block F data_rows blocks (data_rows + i) place ≡ combination F data_rows (λ j. blocks j place) i
    block_parity i place = let e : data_rows + i - data_rows ≡ i = omega arith in rw (le-ltb (data_rows + i) data_rows (omega arith), e)

    module _ (block row : ℕ) where
      pub table_place : (place : ℕ) → place < block → table F data_rows block blocks row place ≡ table_block F data_rows blocks row place
      table_place place h = rw (lt-ltb place block h)

      pub table_card : (c : ℕ) → table F data_rows block blocks row (block + c) ≡ component F block (table_block F data_rows blocks row) c
      table_card c = let e : block + c - block ≡ c = omega arith in rw (le-ltb (block + c) block (omega arith), e)

  -- The same data blocks make the same table.
  pub table_same : (data_rows block : ℕ) (f g : ℕ → ℕ → X) → ((j place : ℕ) → j < data_rows → place < block → f j place ≡ g j place)
      → (row place : ℕ) → table F data_rows block f row place ≡ table F data_rows block g row place
  table_same data_rows block f g e row place = cond_same _ (λ q. same place (ltb-true _ _ q)) (component_same block _ _ _ same)
    where
      same : (place : ℕ) → place < block → table_block F data_rows f row place ≡ table_block F data_rows g row place
      same place l = cond_same _ (λ q. e row place (ltb-true _ _ q) l) (combination_same data_rows _ _ _ λ j h. e j place h l)
