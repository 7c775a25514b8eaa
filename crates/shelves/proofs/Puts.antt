-- Puts after puts, and what holds after all of them since each keeps it.
use Rattle.std.proofs.Common.{◌≡◌, ℕ, ◌+◌, List, [], ◌∷◌, ◌++◌, refl, sym, ap, ◌∙◌, subst, append-nil, append_assoc}
use native.Mathlib.Numerals.{unary_clauses}
use Rattle.shelves.specs.Puts.{PutsAt, ByPuts, unput, then_put, places_of}

module _ {S X : Type 0} (stores : S → ℕ → ℕ → X → S → Type 0) where
  pub same_places : {a b : S} {places others : List (ℕ × ℕ)} → places ≡ others → PutsAt stores a places b → PutsAt stores a others b
  same_places {a = a} {b = b} e p = subst (λ v. PutsAt stores a v b) e p

  pub puts_after : {a b c : S} {places more : List (ℕ × ℕ)} → PutsAt stores a places b → PutsAt stores b more c → PutsAt stores a (places ++ more) c
  puts_after {places = places} p unput = same_places (sym (append-nil places)) p
  puts_after {places = places} p (then_put {places = more} q row place x d) = same_places (append_assoc places more ((row, place) ∷ [])) (then_put (puts_after p q) row place x d)

  pub one_put : {a b : S} → (row place : ℕ) → (x : X) → stores a row place x b → PutsAt stores a ((row, place) ∷ []) b
  one_put row place x d = then_put unput row place x d

  -- one more put, to the next place of a row
  pub next_put : {a b c : S} → (row start count place : ℕ) → PutsAt stores a (places_of row start count) b → place ≡ start + count → PutsAt stores b ((row, place) ∷ []) c → PutsAt stores a (places_of row start (count + 1)) c
  next_put row start count place p e q = simp unary_clauses (puts_after p (same_places (ap (λ v. (row, v) ∷ []) e) q))

  pub no_puts : (s : S) → ByPuts stores s s
  no_puts s = record { places = []; puts = unput }

  pub all_after : {a b c : S} → ByPuts stores a b → ByPuts stores b c → ByPuts stores a c
  all_after p q = record { places = p.places ++ q.places; puts = puts_after p.puts q.puts }

  -- what every put leaves alone
  keep_at : {T : Type 0} → (f : S → T) → ((s : S) → (row place : ℕ) → (x : X) → (after : S) → stores s row place x after → f after ≡ f s) → {a b : S} {places : List (ℕ × ℕ)} → PutsAt stores a places b → f b ≡ f a
  keep_at f keeps unput = refl
  keep_at f keeps (then_put q row place x d) = keeps _ row place x _ d ∙ keep_at f keeps q

  pub puts_keep : {T : Type 0} → (f : S → T) → ((s : S) → (row place : ℕ) → (x : X) → (after : S) → stores s row place x after → f after ≡ f s) → {a b : S} → ByPuts stores a b → f b ≡ f a
  puts_keep f keeps p = keep_at f keeps p.puts

  -- the same puts, seen on what a shelf shows
  module _ {T Y : Type 0} (shows : S → T) (value : X → Y) (stores' : T → ℕ → ℕ → Y → T → Type 0) (step : (s : S) → (row place : ℕ) → (x : X) → (after : S) → stores s row place x after → stores' (shows s) row place (value x) (shows after)) where
    pub puts_shown_at : {a b : S} {places : List (ℕ × ℕ)} → PutsAt stores a places b → PutsAt stores' (shows a) places (shows b)
    puts_shown_at unput = unput
    puts_shown_at (then_put q row place x d) = then_put (puts_shown_at q) row place (value x) (step _ row place x _ d)

    pub puts_shown : {a b : S} → ByPuts stores a b → ByPuts stores' (shows a) (shows b)
    puts_shown p = record { places = p.places; puts = puts_shown_at p.puts }
