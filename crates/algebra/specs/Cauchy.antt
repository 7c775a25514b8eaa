-- Cauchy systems: equations Σ_j y_j ÷ (a_i - b_j) = c_i in unknowns y_j, and the recursion that solves them.
use Rattle.std.specs.Prelude.{ℕ, zero, suc, ◌<◌, ◌≢◌}
use Rattle.algebra.specs.Algebra.{Field, Distinct, minus}
use Rattle.algebra.specs.Sum.{sum_to}

-- r points a for the rows and r points b for the columns, all different
pub record Points {A : Type 0} (r : ℕ) (a b : ℕ → A) : Type 0 where
  pub rows : Distinct r a
  pub columns : Distinct r b
  pub apart : (i j : ℕ) → i < r → j < r → a i ≢ b j

-- a sequence without its first element; one with an element put before it
abbrev pub after : {A : Type 0} → (ℕ → A) → ℕ → A
after f i = f (suc i)

abbrev pub before : {A : Type 0} → A → (ℕ → A) → ℕ → A
before x f zero = x
before x f (suc i) = f i

module _ {A : Type 0} (F : Field A) where
  -- the left-hand side of the equation at the row point x
  abbrev pub row : ℕ → (ℕ → A) → (ℕ → A) → A → A
  row r b y x = sum_to F r (λ j. F.mul (F.inv (minus F x (b j))) (y j))

  -- The unknowns without the first, back from those of the system in which row z and column l are eliminated.
  abbrev pub grown : A → A → (ℕ → A) → (ℕ → A) → ℕ → A
  grown z l b w j = F.mul (minus F z (b j)) (F.mul (F.inv (minus F (b j) l)) (w j))

  -- the right-hand side of that system
  abbrev pub reduced : (ℕ → A) → (ℕ → A) → (ℕ → A) → ℕ → A
  reduced a b c i =
      F.mul (F.inv (minus F (a 0) (a (suc i)))) (minus F (F.mul (minus F (a (suc i)) (b 0)) (c (suc i))) (F.mul (minus F (a 0) (b 0)) (c 0)))

  -- Row 0 and column 0 are eliminated, the rest is solved, and the first unknown follows from row 0.
  abbrev pub solve : ℕ → (ℕ → A) → (ℕ → A) → (ℕ → A) → ℕ → A
  solve zero a b c = c
  solve (suc r) a b c =
      let y : ℕ → A = grown (a 0) (b 0) (after b) (solve r (after a) (after b) (reduced a b c)) in
      before (F.mul (minus F (a 0) (b 0)) (minus F (c 0) (row r (after b) y (a 0)))) y
