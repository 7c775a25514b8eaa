use Rattle.std.proofs.Common.{◌≡◌, ℕ, ◌<◌, slice_index}
use Rattle.rows.proofs.numbers_of.Given as goal

abbrev pub invariant-loop-i : goal.invariant-loop-i
invariant-loop-i g l = (t : ℕ) → t < l.i → (x : g.row.F.Denot) × goal.E-post g l.element t x × (slice_index l.number-items t ≡ g.F.Field.algebra.number (g.F.Field.meaning x))
