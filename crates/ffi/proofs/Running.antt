-- One step, and one step more.
use Rattle.std.specs.Prelude.{map, Result}
use Rattle.std.proofs.Common.{◌≡◌, ℕ, zero, suc, ◌+◌, ◌*◌, ◌<◌, List, [], ◌∷◌, ◌++◌, take, drop, min, get_or, refl, sym, ap, ap₂, ◌∙◌, subst, arith, append-nil}
use Rattle.std.proofs.lemmas.List.{drop-drop}
use Rattle.std.specs.Simd.{first_chunks}
use Rattle.algebra.specs.Algebra.{Field}
use Rattle.rules.specs.Calls.{buffer_after}
use Rattle.rules.specs.Promises.{Promise}
use Rattle.rules.specs.declared.Refusal.{Refusal}
use Rattle.shelves.specs.Contents.{Contents}
use Rattle.shelves.specs.Puts.{ByPuts}
use Rattle.shelves.proofs.Puts.{no_puts}
use Rattle.tray.specs.State.{state}
use Rattle.tray.specs.declared.Tray.{Tray}
use Rattle.ffi.specs.Answers.{answer_numbers, result_numbers, written_over, written_at}
use Rattle.ffi.specs.Script.{step_of, elements, call_of, Called}
use Rattle.ffi.specs.Runs.{step_at, numbers_before, Resulting, Taken, called, struck, Runs, more}
use Rattle.ffi.specs.declared.answers.Given.{Given}
use Rattle.ffi.specs.declared.script.Call.{Call}
use Rattle.ffi.specs.declared.script.Deed.TheVariants.{Call as Calls, Damage}
use Rattle.ffi.specs.declared.script.Step.{Step}
use Rattle.ffi.proofs.Numbers.{elements_from}

-- a shelf that stayed as it was
pub unchanged : {S Y : Type 0} (stores : S → ℕ → ℕ → Y → S → Type 0) (a b : S) → b ≡ a → ByPuts stores a b
unchanged {S} stores a b e = subst (λ (s : S). ByPuts stores a s) (sym e) (no_puts stores a)

-- the words of a step are the first four from its index on
pub chunk_at : (k i : ℕ) (xs : List ℕ) → i < k → get_or (first_chunks 4 k xs) i [] ≡ take 4 (drop (4 * i) xs)
chunk_at zero i xs h = absurd (omega arith)
chunk_at (suc k) zero xs h = refl
chunk_at (suc k) (suc i) xs h =
    let e : 4 + 4 * i ≡ 4 * suc i = omega arith in
    chunk_at k i (drop 4 xs) (omega arith) ∙ ap (take 4) (drop-drop (4 * i) 4 xs ∙ ap (λ v. drop v xs) e)

pub step_words : (ys : List ℕ) → step_of (take 4 ys) ≡ step_of ys
step_words [] = refl
step_words (a ∷ []) = refl
step_words (a ∷ (b ∷ [])) = refl
step_words (a ∷ (b ∷ (c ∷ []))) = refl
step_words (a ∷ (b ∷ (c ∷ (d ∷ ys)))) = refl

module _ {S X Y A : Type 0} (contents : S → Contents X) (stores : S → ℕ → ℕ → Y → S → Type 0) (meaning : X → A) (F : Field A) (room : ℕ) where
  pub resulting : (step : Step) (start : ℕ) (call : Call) (result : Result Given Refusal) (t : Tray S X) (ns : List ℕ) (t' : Tray S X) (front sub sub' rest : List ℕ)
      → front ≡ take start ns → sub ≡ drop start ns → rest ≡ []
      → Called F (state contents meaning t) call step 0 (min step.count room) sub (result_numbers result) sub' (state contents meaning t')
      → ByPuts stores t.shelf t'.shelf
      → Resulting contents stores meaning F room step start call result t ns t' (front ++ (sub' ++ rest))
  resulting step start call result t ns t' front sub sub' rest front_is sub_is rest_is C puts =
      let count = min step.count room in
      let e : start + 0 ≡ start = omega arith in
      let same : elements F sub 0 count ≡ elements F ns start count =
      ap (λ (xs : List ℕ). elements F xs 0 count) sub_is ∙ elements_from F ns start 0 count ∙ ap (λ v. elements F ns v count) e in
      record {
        answer = C.answer;
        told_as = C.told_as;
        calling = record {
          promised = subst (λ (xs : List A). Promise F (state contents meaning t) (call_of call step xs) C.answer (state contents meaning t')) same C.promised;
          puts = puts;
          left =
              ap₂ (λ (a b : List ℕ). a ++ b) front_is
              (ap₂ (λ (a b : List ℕ). a ++ b) (C.left ∙ ap₂ (λ (xs : List A) (ys : List ℕ). written_over (map F.number (buffer_after xs C.answer)) ys) same sub_is) rest_is
              ∙ append-nil (written_over (map F.number (buffer_after (elements F ns start count) C.answer)) (drop start ns)));
        };
      }

module _ {S X Y A : Type 0} (contents : S → Contents X) (stores : S → ℕ → ℕ → Y → S → Type 0) (meaning : X → A) (F : Field A) (damages : Tray S X → Step → Tray S X → Type 0) (room : ℕ) where
  taken_as : (step : Step) (start at : ℕ) (t : Tray S X) (ns rs : List ℕ) (t₁ : Tray S X) (ns₁ rs₁ : List ℕ) (t' : Tray S X) (ns' rs' : List ℕ) → t' ≡ t₁ → ns' ≡ ns₁ → rs' ≡ rs₁
      → Taken contents stores meaning F damages room step start at t ns rs t₁ ns₁ rs₁ → Taken contents stores meaning F damages room step start at t ns rs t' ns' rs'
  taken_as step start at t ns rs t₁ ns₁ rs₁ t' ns' rs' e n r T =
      subst (λ (x : Tray S X). Taken contents stores meaning F damages room step start at t ns rs x ns' rs') (sym e)
      (subst (λ (x : List ℕ). Taken contents stores meaning F damages room step start at t ns rs t₁ x rs') (sym n)
      (subst (λ (x : List ℕ). Taken contents stores meaning F damages room step start at t ns rs t₁ ns₁ x) (sym r) T))

  pub taken_call : (step : Step) (start at : ℕ) (t : Tray S X) (ns rs : List ℕ) (t₁ : Tray S X) (ns₁ : List ℕ) (t' : Tray S X) (ns' rs' : List ℕ) (call : Call) (result : Result Given Refusal)
      → step.deed ≡ Calls call → Resulting contents stores meaning F room step start call result t ns t₁ ns₁ → t' ≡ t₁ → ns' ≡ ns₁ → rs' ≡ written_at at (result_numbers result) rs
      → Taken contents stores meaning F damages room step start at t ns rs t' ns' rs'
  taken_call step start at t ns rs t₁ ns₁ t' ns' rs' call result deed R e n r =
      taken_as step start at t ns rs t₁ ns₁ (written_at at (answer_numbers R.answer) rs) t' ns' rs' e n (r ∙ ap (λ (v : List ℕ). written_at at v rs) R.told_as)
      (called call deed R.answer R.calling)

  pub taken_damage : (step : Step) (start at : ℕ) (t : Tray S X) (ns rs : List ℕ) (t' : Tray S X) (ns' rs' : List ℕ)
      → step.deed ≡ Damage → damages t step t' → ns' ≡ ns → rs' ≡ written_at at (0 ∷ 0 ∷ 0 ∷ 0 ∷ 0 ∷ []) rs
      → Taken contents stores meaning F damages room step start at t ns rs t' ns' rs'
  taken_damage step start at t ns rs t' ns' rs' deed d n r =
      taken_as step start at t ns rs t' ns (written_at at (0 ∷ 0 ∷ 0 ∷ 0 ∷ 0 ∷ []) rs) t' ns' rs' refl n r (struck deed d)

  -- the step at an index, taken with as much room as the script began with
  pub one_more : (script : List ℕ) (t : Tray S X) (ns rs : List ℕ) (i : ℕ) (t₁ : Tray S X) (ns₁ rs₁ : List ℕ) (t₂ : Tray S X) (ns₂ rs₂ : List ℕ) (step : Step) (room' : ℕ)
      → Runs contents stores meaning F damages room script t ns rs i t₁ ns₁ rs₁ → step ≡ step_at script i → room' ≡ room
      → Taken contents stores meaning F damages room' step (numbers_before script i) (5 * i) t₁ ns₁ rs₁ t₂ ns₂ rs₂
      → Runs contents stores meaning F damages room script t ns rs (i + 1) t₂ ns₂ rs₂
  one_more script t ns rs i t₁ ns₁ rs₁ t₂ ns₂ rs₂ step room' R is same T =
      let e : suc i ≡ i + 1 = omega arith in
      subst (λ (v : ℕ). Runs contents stores meaning F damages room script t ns rs v t₂ ns₂ rs₂) e
      (more R (subst (λ (v : ℕ). Taken contents stores meaning F damages v (step_at script i) (numbers_before script i) (5 * i) t₁ ns₁ rs₁ t₂ ns₂ rs₂) same
      (subst (λ (s : Step). Taken contents stores meaning F damages room' s (numbers_before script i) (5 * i) t₁ ns₁ rs₁ t₂ ns₂ rs₂) is T)))
