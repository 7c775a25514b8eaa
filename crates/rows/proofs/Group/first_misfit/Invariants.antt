use Rattle.std.proofs.Common.{◌≡◌, ℕ, ◌+◌, ◌^◌, ◌<◌, ◌≤◌, false, None}
use Rattle.rules.specs.States.{misfit}
use Rattle.rules.specs.Views.{seen}
use Rattle.rows.proofs.Group.first_misfit.Given as goal

abbrev pub invariant-rows : goal.invariant-rows
invariant-rows g l =
    let F = g.S.Symbol.Field.algebra in
    let s = seen g.S.Symbol.Field.meaning l.self.sizes (g.S.Shelf.contents l.self.shelf.now) in
    (l.found ≡ None)
    × (l.start + l.places < 2 ^ 64 → l.self.sizes.data_rows + l.self.sizes.parity_rows < 2 ^ 64 → l.self.sizes.parity_rows ≤ F.size → l.self.sizes.data_rows ≤ 64 → l.self.sizes.data_rows + 4 ≤ F.size → (i t : ℕ) → i < l.i → t < l.places → misfit F s i (l.start + t) ≡ false)

abbrev pub invariant-loop-t : goal.invariant-loop-t
invariant-loop-t g l =
    let F = g.S.Symbol.Field.algebra in
    let s = seen g.S.Symbol.Field.meaning l.self.sizes (g.S.Shelf.contents l.self.shelf.now) in
    (l.found ≡ None)
    × (l.start + l.places < 2 ^ 64 → l.self.sizes.data_rows + l.self.sizes.parity_rows < 2 ^ 64 → l.self.sizes.parity_rows ≤ F.size → l.self.sizes.data_rows ≤ 64 → l.self.sizes.data_rows + 4 ≤ F.size → (t : ℕ) → t < l.t → misfit F s l.i (l.start + t) ≡ false)
