-- Cross accepts a tray whose rows are sound and whose parity rows fit.
use Rattle.std.proofs.Common.{◌≡◌, ℕ, ◌+◌, ◌<◌, true, sym, refl, ap, ◌∙◌, arith}
use Rattle.std.proofs.lemmas.Bool.{both_ways}
use Rattle.algebra.specs.Algebra.{Field}
use Rattle.shelves.specs.Contents.{is_hole}
use Rattle.rules.specs.Calls.{cross}
use Rattle.rules.specs.Crosses.{CrossAccepts}
use Rattle.rules.specs.Exact.{Whole, ParityFits}
use Rattle.rules.specs.Promises.{Line, unfit, early, card_hole, misfit_cross, rejected, accepted, did_cross}
use Rattle.rules.specs.States.{State, k, p, n, m, cell, symbol_at, fits, sound, misfit}
use Rattle.rules.specs.declared.Refusal.{Refusal}
use Rattle.rules.proofs.Found.{lowest_pair_some}
use Rattle.rules.proofs.Rows.{sound_means}
use Rattle.rules.proofs.Tables.{same_differ, component_same, combination_same, component_combination}

module _ {X : Type 0} (F : Field X) (s : State X) (all : (row : ℕ) → row < k s + p s → sound F s row ≡ true)
    (agrees : (i place : ℕ) → i < p s → place < n s → ParityFits F (k s) (symbol_at F s) i place) where
  whole : (row : ℕ) → row < k s + p s → Whole F (n s) (m s) (cell s row)
  whole row l = (sound_means F s row).0 (all row l)

  card_fits : (i c : ℕ) → i < p s → c < m s → ParityFits F (k s) (symbol_at F s) i (n s + c)
  card_fits i c h l =
      (whole (k s + i) (omega arith)).card c l
      ∙ component_same F (n s) _ _ _ (λ t o. agrees i t h o) ∙ component_combination F (n s) (k s) (symbol_at F s) i c
      ∙ combination_same F (k s) _ _ i (λ j o. sym ((whole j (omega arith)).card c l))

  none_in_cross : fits F s ≡ true → s.taken_in ≡ true → (q : Refusal) → Line F s cross q → ⊥
  none_in_cross fit taken q (unfit _ e) = both_ways _ e fit
  none_in_cross fit taken q (early _ _ e) = both_ways _ e taken
  none_in_cross fit taken q (card_hole row c e) =
      let f = lowest_pair_some _ _ (λ r t. is_hole (cell s r (n s + t))) row c e in
      both_ways _ (ap is_hole ((whole row f.0).symbols (n s + c) (omega (arith, f.1))).1) f.2
  none_in_cross fit taken q (misfit_cross i c e) =
      let f = lowest_pair_some _ _ (λ h t. misfit F s h (n s + t)) i c e in
      both_ways _ (same_differ F _ _ (sym (card_fits i c f.0 f.1))) f.2

pub cross_accepts : {X : Type 0} (F : Field X) → CrossAccepts F
cross_accepts F s fit taken all agrees _ _ (rejected r line first) = absurd (none_in_cross F s all agrees fit taken r line)
cross_accepts F s fit taken all agrees _ _ (accepted none did_cross) = refl
