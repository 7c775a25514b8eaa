-- What an audit finds: whole rows, and any change of one to m symbols of a block.
use Rattle.std.specs.Prelude.{◌≡◌, ℕ, ◌+◌, ◌<◌, ◌≤◌, true, false, ◌≢◌, ◌⊎◌, ◌↔◌, List, length}
use mathlib.Core.List.{Memᴰ as In}
use Rattle.algebra.specs.Algebra.{Field}
use Rattle.rules.specs.Calls.{audit, judged}
use Rattle.rules.specs.Codes.{component}
use Rattle.rules.specs.Exact.{Whole}
use Rattle.rules.specs.Promises.{Promise}
use Rattle.rules.specs.States.{State, n, m, cell, fits, sound}
use Rattle.rules.specs.declared.Verdict.{Verdict}
use Rattle.rules.specs.declared.Verdict.TheVariants.{Sound}

-- Two blocks of n places differ in at least one place and in at most m.
pub record FewDiffer {A : Type 0} (n m : ℕ) (f g : ℕ → A) : Type 0 where
  pub places : List ℕ
  pub at_most : length places ≤ m
  pub elsewhere : (place : ℕ) → place < n → (f place ≡ g place) ⊎ In place places
  pub changed : ℕ
  pub below : changed < n
  pub differs : f changed ≢ g changed

module _ {X : Type 0} (F : Field X) where
  -- An audit that is accepted answers sound exactly where the row has a symbol at every place and a fresh card.
  abbrev pub AuditExact : Type 0
  AuditExact = (s : State X) (row : ℕ) (verdict : Verdict) (s' : State X) → Promise F s (audit row) (judged verdict) s'
      → (verdict ≡ Sound) ↔ Whole F (n s) (m s) (cell s row)

  -- Blocks that differ in one to m places, n at most the reach, have different cards of m components.
  abbrev pub ChangesSeen : Type 0
  ChangesSeen = (n m : ℕ) → n ≤ F.reach → (f g : ℕ → X) → FewDiffer n m f g
      → ((c : ℕ) → c < m → component F n f c ≡ component F n g c) → ⊥

  -- A sound row whose card stands and whose block has changed in one to m places, to other symbols or to holes, is sound no longer.
  abbrev pub NoLongerSound : Type 0
  NoLongerSound = (s t : State X) → fits F s ≡ true → t.sizes ≡ s.sizes → (row : ℕ) → sound F s row ≡ true
      → ((place : ℕ) → n s ≤ place → place < n s + m s → cell t row place ≡ cell s row place)
      → FewDiffer (n s) (m s) (cell s row) (cell t row) → sound F t row ≡ false
