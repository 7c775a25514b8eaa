-- What fits says, what a sound row is, and that a struck row is not sound.
use Rattle.std.proofs.Common.{◌≡◌, ℕ, ◌+◌, ◌-◌, ◌<◌, ◌≤◌, Bool, true, false, ◌⊎◌, ◌↔◌, Some, None, Option, sym, refl, ap, ◌∙◌, subst, ap₂, inl, inr, arith}
use Rattle.std.proofs.lemmas.Bool.{both_ways, and_from, cases_lt, lt-ltb}
use Rattle.std.proofs.lemmas.Bool.Decides.{nat_tests}
use Rattle.algebra.specs.Algebra.{Field}
use Rattle.algebra.proofs.Vandermonde.{same_block}
use Rattle.shelves.specs.Contents.{Cell, symbol, hole, is_hole, inside}
use Rattle.rules.specs.Codes.{component, differ, table_block}
use Rattle.rules.specs.Search.{lowest}
use Rattle.rules.specs.States.{State, symbol_or, verdict_of, k, p, n, m, cell, with_cells, symbol_at, fits, sound}
use Rattle.rules.specs.Calls.{is_sound}
use Rattle.rules.specs.Twins.{Same, holed, card_off, block_off, EqualRow, StruckRow, twin_at}
use Rattle.rules.specs.Exact.{Whole}
use Rattle.rules.proofs.Found.{lowest_none, none_lowest}
use Rattle.rules.proofs.Tables.{differ_same, same_differ, component_same, table_place, table_card}

-- a place that is no hole
pub readable : {X : Type 0} (c : Cell X) → is_hole c ≡ false → (x : X) × (c ≡ symbol x)
readable (symbol x) e = (x, refl)
readable hole e = absurd (both_ways true e refl)

-- what stands where a symbol does
pub read_back : {X : Type 0} (d : X) {c : Cell X} → (x : X) × (c ≡ symbol x) → c ≡ symbol (symbol_or d c)
read_back d (x, e) = e ∙ ap symbol (sym (ap (symbol_or d) e))

-- two whole rows with the same block are the same
pub whole_same : {X : Type 0} (F : Field X) {n m : ℕ} {held held' : ℕ → Cell X} → Whole F n m held → Whole F n m held'
    → ((place : ℕ) → place < n → symbol_or F.zer (held place) ≡ symbol_or F.zer (held' place)) → (place : ℕ) → place < n + m → held place ≡ held' place
whole_same F {n} {m} {held} {held'} w w' same place l =
    read_back F.zer (w.symbols place l) ∙ ap symbol (symbols (cases_lt place n)) ∙ sym (read_back F.zer (w'.symbols place l))
  where
    symbols : (place < n) ⊎ (n ≤ place) → symbol_or F.zer (held place) ≡ symbol_or F.zer (held' place)
    symbols (inl less) = same place less
    symbols (inr more) =
        let e : n + (place - n) ≡ place = omega arith in
        subst (λ t. symbol_or F.zer (held t) ≡ symbol_or F.zer (held' t)) e
        (w.card (place - n) (omega arith) ∙ component_same F n _ _ _ same ∙ sym (w'.card (place - n) (omega arith)))

verdict_sound : (o c : Option ℕ) → is_sound (verdict_of o c) ≡ true → (o ≡ None) × (c ≡ None)
verdict_sound None None e = (refl, refl)
verdict_sound None (Some c) e = absurd (both_ways false refl e)
verdict_sound (Some i) c e = absurd (both_ways false refl e)

module _ {X : Type 0} (F : Field X) (s : State X) where
  -- what fits says
  pub record Fitting : Type 0 where
    pub k_low : 1 ≤ k s
    pub k_high : k s ≤ 64
    pub p_low : 1 ≤ p s
    pub p_high : p s ≤ 4
    pub n_low : 1 ≤ n s
    pub n_high : n s ≤ 4096
    pub m_low : 2 ≤ m s
    pub m_high : m s ≤ 8
    pub enough : k s + 4 ≤ F.size
    pub reaches : n s ≤ F.reach
    pub rows : s.contents.rows ≡ k s + p s
    pub places : s.contents.places ≡ n s + m s

  pub fitting : fits F s ≡ true → Fitting
  fitting e = grind (arith, nat_tests)

  -- inside the sizes other cells stand as they are given
  pub cell_inside : fits F s ≡ true → (cells : ℕ → ℕ → Cell X) (row place : ℕ) → row < k s + p s → place < n s + m s → cell (with_cells s cells) row place ≡ cells row place
  cell_inside fit cells row place h l =
      let f = fitting fit in
      let is : inside s.contents row place ≡ true = and_from _ _ (lt-ltb row _ (omega (arith, f.rows))) (lt-ltb place _ (omega (arith, f.places))) in
      rw is

  -- the two tests of an audit
  abbrev hole_at : ℕ → ℕ → Bool
  hole_at row place = is_hole (cell s row place)

  abbrev wrong : ℕ → ℕ → Bool
  wrong row c = differ F (component F (n s) (symbol_at F s row) c) (symbol_at F s row (n s + c))

  -- A row is sound exactly when it has a symbol at every place and a fresh card.
  pub sound_means : (row : ℕ) → (sound F s row ≡ true) ↔ Whole F (n s) (m s) (cell s row)
  sound_means row = (to, from)
    where
      to : sound F s row ≡ true → Whole F (n s) (m s) (cell s row)
      to e =
          let v = verdict_sound (lowest (n s + m s) (hole_at row)) (lowest (m s) (wrong row)) e in
          record {
            symbols = λ place h. readable _ (lowest_none (n s + m s) (hole_at row) v.0 place h);
            card = λ c h. sym (differ_same F _ _ (lowest_none (m s) (wrong row) v.1 c h));
          }

      from : Whole F (n s) (m s) (cell s row) → sound F s row ≡ true
      from w =
          ap₂ (λ o c. is_sound (verdict_of o c))
          (none_lowest (n s + m s) (hole_at row) λ place h. ap is_hole (w.symbols place h).1)
          (none_lowest (m s) (wrong row) λ c h. same_differ F _ _ (sym (w.card c h)))

  module _ (blocks : ℕ → ℕ → X) (row : ℕ) where
    abbrev Twin : ℕ → Type 0
    Twin = Same (n s) (m s) (cell s row) (twin_at F blocks s row)

    same_at : (place : ℕ) → Twin place → symbol_at F s row place ≡ twin_at F blocks s row place
    same_at place e = ap (symbol_or F.zer) e

    -- the fresh card over a block that is the twin's
    fresh : ((place : ℕ) → place < n s → Twin place) → (c : ℕ) → component F (n s) (symbol_at F s row) c ≡ twin_at F blocks s row (n s + c)
    fresh e c = component_same F _ _ _ c (λ i h. same_at i (e i h) ∙ table_place F _ blocks _ row i h) ∙ sym (table_card F _ blocks _ row c)

    pub equal_sound : EqualRow F blocks s row → sound F s row ≡ true
    equal_sound e = (sound_means row).1 (record {
      symbols = λ place h. (_, e place h);
      card = λ c h. same_at (n s + c) (e (n s + c) (omega arith)) ∙ sym (fresh (λ place l. e place (omega arith)) c);
    })

    pub struck_unsound : fits F s ≡ true → StruckRow F blocks s row → sound F s row ≡ true → ⊥
    struck_unsound fit struck e = go struck ((sound_means row).0 e)
      where
        go : StruckRow F blocks s row → Whole F (n s) (m s) (cell s row) → ⊥
        go (holed place h c) w = let (x, q) = w.symbols place h in cc
        go (card_off same place low high other) w =
            let e : n s + (place - n s) ≡ place = omega arith in
            let q = w.card (place - n s) (omega arith) in
            other (read_back F.zer (w.symbols place high) ∙ ap symbol (rw e at (q ∙ fresh same (place - n s))))
        go (block_off cards places few off place h other) w =
            other (read_back F.zer (w.symbols place (omega arith)) ∙ ap symbol (equal place h ∙ sym (table_place F _ blocks _ row place h)))
          where
            equal : (i : ℕ) → i < n s → symbol_at F s row i ≡ table_block F (k s) blocks row i
            equal = same_block F (n s) F.α (λ i j l o. F.α_powers i j (omega (arith, (fitting fit).reaches)) (omega (arith, (fitting fit).reaches))) (m s) places few _ _
                (λ i l. elim (off i l) [ inl q ↦ inl (same_at i q ∙ table_place F _ blocks _ row i l) | inr q ↦ inr q ])
                λ c l. sym (w.card c l) ∙ same_at (n s + c) (cards (n s + c) (omega arith) (omega arith)) ∙ table_card F _ blocks _ row c
