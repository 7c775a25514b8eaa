-- What every run keeps: the tray fits, it is taken in, and each row equals its twin or is struck.
use Rattle.std.proofs.Common.{◌≡◌, ℕ, ◌+◌, ◌<◌, true, false, ◌⊎◌, ◌↔◌, sym, ◌∙◌, subst₂, inl, inr}
use mathlib.Core.Path.{fun_ext}
use Rattle.std.proofs.lemmas.Bool.{cases_Bool, both_ways}
use Rattle.algebra.specs.Algebra.{Field}
use Rattle.shelves.specs.Contents.{Cell}
use Rattle.shelves.proofs.Contents.{filled_same}
use Rattle.rules.specs.States.{State, k, p, n, m, cell, with_cells, fits, sound}
use Rattle.rules.specs.Twins.{Equal, Struck, EqualRow, StruckRow, twin_at}
use Rattle.rules.proofs.Rows.{cell_inside, equal_sound, struck_unsound}

pub record Kept {X : Type 0} (F : Field X) (blocks : ℕ → ℕ → X) (s : State X) : Type 0 where
  pub fitting : fits F s ≡ true
  pub taken : s.taken_in ≡ true
  pub each_row : (row : ℕ) → row < k s + p s → EqualRow F blocks s row ⊎ StruckRow F blocks s row

module _ {X : Type 0} (F : Field X) (blocks : ℕ → ℕ → X) (s : State X) (kept : Kept F blocks s) where
  pub sound_equal : (row : ℕ) → row < k s + p s → (sound F s row ≡ true) ↔ EqualRow F blocks s row
  sound_equal row l = (
    λ e. elim (kept.each_row row l) [ inl equal ↦ equal | inr struck ↦ absurd (struck_unsound F s blocks row kept.fitting struck e) ],
    equal_sound F s blocks row,
  )

  pub unsound_struck : (row : ℕ) → row < k s + p s → (sound F s row ≡ false) ↔ StruckRow F blocks s row
  unsound_struck row l = (
    λ e. elim (kept.each_row row l) [ inl equal ↦ absurd (both_ways _ e (equal_sound F s blocks row equal)) | inr struck ↦ struck ],
    λ struck. elim (cases_Bool (sound F s row)) [ inl e ↦ absurd (struck_unsound F s blocks row kept.fitting struck e) | inr e ↦ e ],
  )

  module _ (blocks' : ℕ → ℕ → X) (cells : ℕ → ℕ → Cell X) where
    -- a row that holds what it held, beside a twin that holds what it held
    abbrev pub Unmoved : ℕ → Type 0
    Unmoved row = (place : ℕ) → (cells row place ≡ cell s row place) × (twin_at F blocks' s row place ≡ twin_at F blocks s row place)

    pub kept_moved : ((row : ℕ) → row < k s + p s → Equal (n s) (m s) (cells row) (twin_at F blocks' s row) ⊎ Unmoved row) → Kept F blocks' (with_cells s cells)
    kept_moved each = record {
      fitting = kept.fitting;
      taken = kept.taken;
      each_row = λ row l. elim (each row l) [
        | inl equal ↦ inl (λ place h. cell_inside F s kept.fitting cells row place l h ∙ equal place h)
        | inr still ↦ subst₂ (λ held owed. Equal (n s) (m s) held owed ⊎ Struck (n s) (m s) held owed)
            (fun_ext λ place. sym (filled_same s.contents cells row place (still place).0)) (fun_ext λ place. sym (still place).1) (kept.each_row row l)
      ];
    }
