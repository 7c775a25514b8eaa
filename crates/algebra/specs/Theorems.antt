-- The two theorems under everything, over any field.
use Rattle.std.specs.Prelude.{◌≡◌, ℕ, ◌+◌, ◌<◌, ◌≤◌, ◌⊎◌, List, length}
use mathlib.Core.List.{Memᴰ as In}
use Rattle.algebra.specs.Algebra.{Field, Distinct, power, minus}
use Rattle.algebra.specs.Sum.{sum_to}
use Rattle.algebra.specs.Signature.{signature}
use Rattle.algebra.specs.Cauchy.{solve}

module _ {A : Type 0} (F : Field A) where
  -- Two blocks of n symbols, n at most the reach, that differ at no places but at most m and have the same first m signatures are equal.
  abbrev pub SignaturesFindChanges : Type 0
  SignaturesFindChanges = (n m : ℕ) → n ≤ F.reach → (f g : ℕ → A) (places : List ℕ) → length places ≤ m
      → ((i : ℕ) → i < n → (f i ≡ g i) ⊎ In i places)
      → ((c : ℕ) → c < m → signature F n f (power F F.α c) ≡ signature F n g (power F F.α c))
      → (i : ℕ) → i < n → f i ≡ g i

  -- what column j of the parity matrix is scaled by, so that its row 0 is all ones
  abbrev pub scale : ℕ → A
  scale j = minus F (F.element 0) (F.element (4 + j))

  -- the coefficient of parity row i and data row j: a Cauchy matrix with its columns scaled
  abbrev pub coefficient : ℕ → ℕ → A
  coefficient i j = F.mul (scale j) (F.inv (minus F (F.element i) (F.element (4 + j))))

  -- r different parity rows, below 4, and r different data rows, of k that the field has room for
  pub record Square (k r : ℕ) (rows columns : ℕ → ℕ) : Type 0 where
    pub room : k + 4 ≤ F.size
    pub rows_below : (i : ℕ) → i < r → rows i < 4
    pub columns_below : (j : ℕ) → j < r → columns j < k
    pub rows_differ : Distinct r rows
    pub columns_differ : Distinct r columns

  module _ (r : ℕ) (rows columns : ℕ → ℕ) (c : ℕ → A) where
    -- x solves the r equations: row i of the matrix times x is c i
    abbrev pub Solves : (ℕ → A) → Type 0
    Solves x = (i : ℕ) → i < r → sum_to F r (λ j. F.mul (coefficient (rows i) (columns j)) (x j)) ≡ c i

    -- the solution, by the recursion for Cauchy systems
    abbrev pub solution : ℕ → A
    solution j = F.mul (F.inv (scale (columns j))) (solve F r (λ i. F.element (rows i)) (λ l. F.element (4 + columns l)) c j)

  -- Any r rows of the parity matrix against any r columns have exactly one solution, for every right-hand side, and the recursion finds it.
  abbrev pub ExactlyOneSolution : Type 0
  ExactlyOneSolution = (k r : ℕ) (rows columns : ℕ → ℕ) → Square k r rows columns → (c : ℕ → A)
      → Solves r rows columns c (solution r rows columns c)
      × ((x : ℕ → A) → Solves r rows columns c x → (j : ℕ) → j < r → x j ≡ solution r rows columns c j)
