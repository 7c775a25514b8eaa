-- A shelf that writes puts down, and what a put to it does.
use Rattle.std.specs.Prelude.{◌≡◌, ℕ, ◌+◌, ◌-◌, ◌*◌, ◌^◌, min, List, [], ◌∷◌}
use Rattle.std.specs.Borrow.{MutBor}
use Rattle.shelves.specs.Contents.{Contents, after_put}
use Rattle.ffi.specs.Answers.{written_at}
use Rattle.ffi.specs.declared.recorded.Recorded.{Recorded}

-- A new shelf has the shelf and the room that it was given, and no put yet.
pub record Lent {S : Type 0} (given : S) (room : MutBor (List ℕ)) (s : Recorded S) : Type 0 where
  pub inner : s.inner ≡ given
  pub puts : s.puts.now ≡ room.now
  pub same : s.puts.ghost_name ≡ room.ghost_name
  pub count : s.count ≡ 0

-- What a put does: to the inner shelf what a put to that does, and its row, its place and its symbol's number are written down behind the puts before it, as far
-- as there is room. It is still the same room. The count stays at the most that a word holds.
pub record Recording {S X : Type 0} (stores : S → ℕ → ℕ → X → S → Type 0) (contents : S → Contents X) (number : X → ℕ) (before : Recorded S) (row place : ℕ) (symbol : X) (after : Recorded S) : Type 0 where
  pub inner : stores before.inner row place symbol after.inner
  pub held : contents after.inner ≡ after_put (contents before.inner) row place symbol
  pub puts : after.puts.now ≡ written_at (3 * before.count) (row ∷ place ∷ number symbol ∷ []) before.puts.now
  pub same : after.puts.ghost_name ≡ before.puts.ghost_name
  pub count : after.count ≡ min (before.count + 1) (2 ^ 64 - 1)
