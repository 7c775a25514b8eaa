-- A run over trays is a run over what their shelves are seen as.
use Rattle.std.proofs.Common.{◌≡◌, ℕ, List, refl, subst, sym, ap, ◌∙◌}
use Rattle.algebra.specs.Algebra.{Field}
use Rattle.shelves.specs.Contents.{Contents}
use Rattle.shelves.proofs.Puts.{puts_keep, puts_shown}
use Rattle.image_shelves.specs.declared.image.ImageShelf.{ImageShelf}
use Rattle.rules.specs.Views.{seen as seen_state}
use Rattle.rules.specs.declared.Sizes.{Sizes}
use Rattle.tray.specs.State.{state}
use Rattle.tray.specs.declared.Tray.{Tray}
use Rattle.ffi.specs.Images.{reshelved, fresh, Struck, BytesStruck}
use Rattle.ffi.specs.Runs.{Taken, called, struck, Runs, begun, more}
use Rattle.ffi.specs.declared.script.Step.{Step}

module _ {S S' X Y Y' A : Type 0} (seen : S → S') (contents : S' → Contents X) (value : Y → Y') (stores : S → ℕ → ℕ → Y → S → Type 0) (stores' : S' → ℕ → ℕ → Y' → S' → Type 0) (meaning : X → A) (F : Field A) (damages : Tray S X → Step → Tray S X → Type 0) (damages' : Tray S' X → Step → Tray S' X → Type 0) (room : ℕ)
    (stored_so : (s : S) (row place : ℕ) (y : Y) (s' : S) → stores s row place y s' → stores' (seen s) row place (value y) (seen s'))
    (struck_so : (t : Tray S X) (step : Step) (t' : Tray S X) → damages t step t' → damages' (reshelved t (seen t.shelf)) step (reshelved t' (seen t'.shelf))) where
  abbrev bare : Tray S X → Tray S' X
  bare t = reshelved t (seen t.shelf)

  taken_bare : {step : Step} {start at : ℕ} {t : Tray S X} {ns rs : List ℕ} {t' : Tray S X} {ns' rs' : List ℕ} → Taken (λ s. contents (seen s)) stores meaning F damages room step start at t ns rs t' ns' rs'
      → Taken contents stores' meaning F damages' room step start at (bare t) ns rs (bare t') ns' rs'
  taken_bare (called call deed answer C) = called call deed answer (record { promised = C.promised; puts = puts_shown stores seen value stores' stored_so C.puts; left = C.left })
  taken_bare (struck deed d) = struck deed (struck_so _ _ _ d)

  pub runs_bare : {script : List ℕ} {t : Tray S X} {ns rs : List ℕ} {i : ℕ} {t' : Tray S X} {ns' rs' : List ℕ} → Runs (λ s. contents (seen s)) stores meaning F damages room script t ns rs i t' ns' rs'
      → Runs contents stores' meaning F damages' room script (bare t) ns rs i (bare t') ns' rs'
  runs_bare begun = begun
  runs_bare (more R T) = more (runs_bare R) (taken_bare T)

-- what every put and all damage leave alone
module _ {S X Y A N : Type 0} (contents : S → Contents X) (stores : S → ℕ → ℕ → Y → S → Type 0) (meaning : X → A) (F : Field A) (damages : Tray S X → Step → Tray S X → Type 0) (room : ℕ) (name : S → N)
    (stored_keeps : (s : S) (row place : ℕ) (y : Y) (s' : S) → stores s row place y s' → name s' ≡ name s) (struck_keeps : (t : Tray S X) (step : Step) (t' : Tray S X) → damages t step t' → name t'.shelf ≡ name t.shelf) where
  taken_keeps : {step : Step} {start at : ℕ} {t : Tray S X} {ns rs : List ℕ} {t' : Tray S X} {ns' rs' : List ℕ} → Taken contents stores meaning F damages room step start at t ns rs t' ns' rs' → name t'.shelf ≡ name t.shelf
  taken_keeps (called call deed answer C) = puts_keep stores name stored_keeps C.puts
  taken_keeps (struck deed d) = struck_keeps _ _ _ d

  pub runs_keep : {script : List ℕ} {t : Tray S X} {ns rs : List ℕ} {i : ℕ} {t' : Tray S X} {ns' rs' : List ℕ} → Runs contents stores meaning F damages room script t ns rs i t' ns' rs' → name t'.shelf ≡ name t.shelf
  runs_keep begun = refl
  runs_keep (more R T) = taken_keeps T ∙ runs_keep R

-- a new tray, seen over another shelf
pub fresh_as : {S S' X A : Type 0} (contents : S → Contents X) (meaning : X → A) (sizes : Sizes) (t : Tray S X) (c : Contents X) (held shelf : S') → state contents meaning t ≡ seen_state meaning sizes c → held ≡ shelf
    → reshelved t held ≡ fresh sizes shelf
fresh_as contents meaning sizes t c held shelf e b = λ i. record { shelf = b i; sizes = (e i).sizes; taken_in = (e i).taken_in; round = (e i).round; sheet = (e i).sheet }

-- damage to a tray over an image, seen over its bytes
struck_here : {X : Type 0} (t : Tray (ImageShelf X) X) (step : Step) (t' : Tray (ImageShelf X) X) → Struck t step t' → BytesStruck (reshelved t t.shelf.bytes.now) step (reshelved t' t'.shelf.bytes.now)
struck_here t step t' D = λ i. record { shelf = D.bytes i; sizes = D.sizes i; taken_in = D.taken_in i; round = D.round i; sheet = D.sheet i }

pub struck_bytes : {X : Type 0} (t : Tray (ImageShelf X) X) (step : Step) (t' : Tray (ImageShelf X) X) (a b : Tray (ImageShelf X) X) → a ≡ t → b ≡ t' → Struck a step b
    → BytesStruck (reshelved t t.shelf.bytes.now) step (reshelved t' t'.shelf.bytes.now)
struck_bytes {X} t step t' a b is is' D =
    subst (λ (x : Tray (ImageShelf X) X). BytesStruck (reshelved x x.shelf.bytes.now) step (reshelved t' t'.shelf.bytes.now)) is
    (subst (λ (x : Tray (ImageShelf X) X). BytesStruck (reshelved a a.shelf.bytes.now) step (reshelved x x.shelf.bytes.now)) is' (struck_here a step b D))

-- damage to a tray over an image keeps the bytes of memory
pub struck_same : {X : Type 0} (t : Tray (ImageShelf X) X) (step : Step) (t' a b : Tray (ImageShelf X) X) → a ≡ t → b ≡ t' → Struck a step b → t'.shelf.bytes.ghost_name ≡ t.shelf.bytes.ghost_name
struck_same {X} t step t' a b is is' D = sym (ap (λ (x : Tray (ImageShelf X) X). x.shelf.bytes.ghost_name) is') ∙ D.same ∙ ap (λ (x : Tray (ImageShelf X) X). x.shelf.bytes.ghost_name) is

-- damage that does nothing, seen over another shelf
pub unstruck : {S S' X : Type 0} (seen : S → S') (t t' a b : Tray S X) → a ≡ t → b ≡ t' → b ≡ a → reshelved t' (seen t'.shelf) ≡ reshelved t (seen t.shelf)
unstruck {S} {S'} {X} seen t t' a b is is' e = ap (λ (x : Tray S X). reshelved x (seen x.shelf)) (sym is' ∙ e ∙ is)
