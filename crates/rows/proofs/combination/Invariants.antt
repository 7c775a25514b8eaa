use Rattle.std.proofs.Common.{◌≡◌, ℕ, min}
use Rattle.rules.specs.Codes.{combination}
use Rattle.rules.specs.Views.{element_at}
use Rattle.rows.specs.Weights.{Coefficients}
use Rattle.rows.proofs.combination.Given as goal

abbrev pub invariant-loop-j : goal.invariant-loop-j
invariant-loop-j g l =
    let F = g.S.Symbol.Field.algebra in
    (i : ℕ) → Coefficients F i (min l.data_rows 64) l.coefficients → g.S.Symbol.Field.meaning l.sum ≡ combination F l.j (λ j. element_at F g.S.Symbol.Field.meaning (g.S.Shelf.contents l.shelf) j l.place) i
