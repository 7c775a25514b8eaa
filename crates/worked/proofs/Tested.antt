-- Tables and rows of bytes, compared by tests that compute.
use Rattle.std.proofs.Common.{◌≡◌, ℕ, ◌+◌, ◌<◌, ◌≤◌, Bool, true, false, not, ◌&&◌, ◌||◌, eqb, ◌⊎◌, [], ◌∷◌, refl, ap, inl, inr, arith}
use mathlib.Core.List.Memᴰ.{head as here}
use Rattle.std.proofs.lemmas.Bool.{agree_below, agree_below_at, both_ways, and_parts, eqb-true, eq-eqb, ltb-true, not-true}
use Rattle.algebra.specs.Below.{Below, same_below}
use Rattle.algebra.proofs.Cases.{by_cases}
use Rattle.shelves.specs.Contents.{Cell, symbol, hole, within, filled}
use Rattle.shelves.proofs.Contents.{same_contents}
use Rattle.rules.specs.Twins.{Equal, Struck, card_off, block_off}

-- a test passes at every number below a bound
abbrev pub each : ℕ → (ℕ → Bool) → Bool
each n test = agree_below test (λ _. true) n

module _ {q : ℕ} where
  abbrev pub same : Cell (Below q) → Cell (Below q) → Bool
  same (symbol x) (symbol y) = eqb x.value y.value
  same (symbol x) hole = false
  same hole (symbol y) = false
  same hole hole = true

  pub same_true : (c d : Cell (Below q)) → same c d ≡ true → c ≡ d
  same_true (symbol x) (symbol y) e = ap symbol (same_below x y (eqb-true _ _ e))
  same_true (symbol x) hole e = absurd (both_ways false refl e)
  same_true hole (symbol y) e = absurd (both_ways false refl e)
  same_true hole hole e = refl

  pub same_false : (c d : Cell (Below q)) → same c d ≡ false → c ≡ d → ⊥
  same_false (symbol x) (symbol y) e f = both_ways _ e (eq-eqb _ _ (value f))
    where
      value : symbol x ≡ symbol y → x.value ≡ y.value
      value f = let z : x ≡ y = cc in ap (λ b. b.value) z
  same_false (symbol x) hole e f = let z : ◌≡◌ {A = ℕ} 0 1 = cc in omega arith
  same_false hole (symbol y) e f = let z : ◌≡◌ {A = ℕ} 0 1 = cc in omega arith
  same_false hole hole e f = both_ways true e refl

  -- two tables hold the same in so many rows and places
  abbrev pub alike : ℕ → ℕ → (ℕ → ℕ → Cell (Below q)) → (ℕ → ℕ → Cell (Below q)) → Bool
  alike rows places f g = each rows (λ row. each places (λ place. same (f row place) (g row place)))

  pub alike_contents : (rows places : ℕ) (f g : ℕ → ℕ → Cell (Below q)) → alike rows places f g ≡ true → filled rows places f ≡ filled rows places g
  alike_contents rows places f g e =
      same_contents (filled rows places f) (filled rows places g) refl refl (λ row place.
      by_cases (within rows places row place)
      (λ is. let inside = and_parts _ _ is in
      rw is (same_true _ _ (agree_below_at _ (λ _. true) places place (agree_below_at _ (λ _. true) rows row e (ltb-true _ _ inside.0)) (ltb-true _ _ inside.1))))
      (λ out. rw out))

  -- a row holds what it should
  abbrev pub whole : ℕ → (ℕ → Cell (Below q)) → (ℕ → Below q) → Bool
  whole places cells owed = each places (λ place. same (cells place) (symbol (owed place)))

  pub whole_equal : (n m : ℕ) (cells : ℕ → Cell (Below q)) (owed : ℕ → Below q) → whole (n + m) cells owed ≡ true → Equal n m cells owed
  whole_equal n m cells owed e place l = same_true _ _ (agree_below_at _ (λ _. true) (n + m) place e l)

  -- it holds what it should but at one place
  abbrev pub whole_but : ℕ → ℕ → (ℕ → Cell (Below q)) → (ℕ → Below q) → Bool
  whole_but place places cells owed = each places (λ t. eqb t place || same (cells t) (symbol (owed t))) && not (same (cells place) (symbol (owed place)))

  module _ (n m : ℕ) (cells : ℕ → Cell (Below q)) (owed : ℕ → Below q) (place : ℕ) (e : whole_but place (n + m) cells owed ≡ true) where
    elsewhere : (t : ℕ) → t < n + m → (cells t ≡ symbol (owed t)) ⊎ (t ≡ place)
    elsewhere t l =
        by_cases (eqb t place)
        (λ here. inr (eqb-true t place here))
        (λ there. inl (same_true _ _ (rw there at (agree_below_at (λ u. eqb u place || same (cells u) (symbol (owed u))) (λ _. true) (n + m) t (and_parts _ _ e).0 l))))

    differs : cells place ≡ symbol (owed place) → ⊥
    differs = same_false _ _ (not-true _ (and_parts _ _ e).1)

    there_same : (t : ℕ) → t < n + m → (t ≡ place → ⊥) → cells t ≡ symbol (owed t)
    there_same t l ne = elim (elsewhere t l) [ inl same ↦ same | inr at ↦ absurd (ne at) ]

    pub block_struck : place < n → 1 ≤ m → Struck n m cells owed
    block_struck l some =
        block_off (λ t low high. there_same t high (λ at. omega arith)) (place ∷ []) some
        (λ t lt. elim (elsewhere t (omega arith)) [ inl same ↦ inl same | inr at ↦ inr (here at) ]) place l differs

    pub card_struck : n ≤ place → place < n + m → Struck n m cells owed
    card_struck low high = card_off (λ t lt. there_same t (omega arith) (λ at. omega arith)) place low high differs
