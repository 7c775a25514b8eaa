-- An audit's answer is exact, and it finds any change of one to m symbols of a block.
use Rattle.std.proofs.Common.{◌≡◌, ℕ, ◌+◌, ◌<◌, ◌≤◌, true, ◌⊎◌, sym, ap, ◌∙◌, subst₂, inl, inr, arith}
use mathlib.Core.List.{Memᴰ as In}
use Rattle.std.proofs.lemmas.Bool.{cases_Bool}
use Rattle.algebra.specs.Algebra.{Field}
use Rattle.algebra.proofs.Vandermonde.{same_block}
use Rattle.shelves.specs.Contents.{symbol}
use Rattle.rules.specs.Audits.{FewDiffer, AuditExact, ChangesSeen, NoLongerSound}
use Rattle.rules.specs.Codes.{component}
use Rattle.rules.specs.Exact.{Whole}
use Rattle.rules.specs.Calls.{is_sound}
use Rattle.rules.specs.Promises.{accepted, did_audit}
use Rattle.rules.specs.States.{State, symbol_or, n, m, cell, symbol_at, audited, sound}
use Rattle.rules.proofs.Law.{sound_is}
use Rattle.rules.proofs.Rows.{fitting, read_back, sound_means}

module _ {X : Type 0} (F : Field X) where
  pub audit_exact : AuditExact F
  audit_exact s row _ s' (accepted none (did_audit _)) = (
    λ e. (sound_means F s row).0 (ap is_sound e),
    λ whole. sound_is (audited F s row) ((sound_means F s row).1 whole),
  )

  pub changes_seen : ChangesSeen F
  changes_seen n m reached f g few same =
      few.differs (same_block F n F.α (λ i j h l. F.α_powers i j (omega arith) (omega arith)) m few.places few.at_most f g few.elsewhere same few.changed few.below)

  module _ (s t : State X) (row : ℕ) where
    -- two whole rows with the same card have blocks that do not differ so little
    whole_alike : n s ≤ F.reach → Whole F (n s) (m s) (cell s row) → Whole F (n s) (m s) (cell t row)
        → ((place : ℕ) → n s ≤ place → place < n s + m s → cell t row place ≡ cell s row place)
        → FewDiffer (n s) (m s) (cell s row) (cell t row) → ⊥
    whole_alike reached w v cards few = changes_seen (n s) (m s) reached (symbol_at F s row) (symbol_at F t row) apart same
      where
        elsewhere : (place : ℕ) → place < n s → (symbol_at F s row place ≡ symbol_at F t row place) ⊎ In place few.places
        elsewhere place l = elim (few.elsewhere place l) [ inl e ↦ inl (ap (symbol_or F.zer) e) | inr listed ↦ inr listed ]

        apart : FewDiffer (n s) (m s) (symbol_at F s row) (symbol_at F t row)
        apart = record {
          places = few.places;
          at_most = few.at_most;
          elsewhere = elsewhere;
          changed = few.changed;
          below = few.below;
          differs = λ e.
              let l : few.changed < n s = few.below in
              few.differs (read_back F.zer (w.symbols few.changed (omega arith)) ∙ ap symbol e ∙ sym (read_back F.zer (v.symbols few.changed (omega arith))));
        }

        same : (c : ℕ) → c < m s → component F (n s) (symbol_at F s row) c ≡ component F (n s) (symbol_at F t row) c
        same c l = sym (w.card c l) ∙ ap (symbol_or F.zer) (sym (cards (n s + c) (omega arith) (omega arith))) ∙ v.card c l

  pub no_longer_sound : NoLongerSound F
  no_longer_sound s t fit sizes row sound_before cards few =
      elim (cases_Bool (sound F t row)) [
        | inl e ↦ absurd (whole_alike s t row (fitting F s fit).reaches ((sound_means F s row).0 sound_before) (whole e) cards few)
        | inr e ↦ e
      ]
    where
      whole : sound F t row ≡ true → Whole F (n s) (m s) (cell t row)
      whole e = subst₂ (λ b c. Whole F b c (cell t row)) (ap (λ z. z.block_length) sizes) (ap (λ z. z.card_length) sizes) ((sound_means F t row).0 e)
