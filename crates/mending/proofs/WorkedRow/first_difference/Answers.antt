use Rattle.std.proofs.Common.{◌≡◌, ℕ, ◌+◌, ◌<◌, Bool, true, false, rules, tests}
use Rattle.std.proofs.lemmas.Iterator.{first_from_Range}
use Rattle.rules.specs.Codes.{differ}
use Rattle.rules.specs.Views.{element_at}
use Rattle.rules.proofs.Loops.{lowest_found}
use Rattle.mending.specs.Stored.{stored}
use Rattle.mending.specs.Puts.{weighted_sum}
use Rattle.mending.proofs.WorkedRow.first_difference.Goals as goal

pub returns : goal.returns
returns g c =
    let F = g.S.Symbol.Field.algebra in
    let meaning = g.S.Symbol.Field.meaning in
    let sizes = c.args.group.now.sizes in
    let held = g.S.Shelf.contents c.args.group.now.shelf.now in
    let test : ℕ → Bool = λ place. differ F (weighted_sum F meaning held (stored F c.args.self.now.weights) (sizes.data_rows + sizes.parity_rows) place) (element_at F meaning held c.args.self.now.row place) in
    lowest_found sizes.block_length test c.find.result
    (first_from_Range _ _ _ c.find.result (λ place. place < sizes.block_length → test place ≡ true) (λ place. place < sizes.block_length → test place ≡ false) c.find.ensures.ran
    (λ x q k. search (rules, tests)) (λ x q k. search (rules, tests)))
