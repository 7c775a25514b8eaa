use Rattle.std.proofs.Common.{rules, tests}
use Rattle.rules.specs.Updates.{worked_misfit}
use Rattle.rules.proofs.Mapped.{lowest_pair_mapped}
use Rattle.rows.specs.Shown.{shown}
use Rattle.mending.proofs.first_worked_misfit_for.Goals as goal

pub returns : goal.returns
returns g c ready blocks w =
    let sizes = c.args.group.now.sizes in
    let s = shown g.S.Shelf.contents g.S.Symbol.Field.meaning c.args.group.now in
    lowest_pair_mapped sizes.parity_rows sizes.block_length _ c.find_map.result (worked_misfit g.S.Symbol.Field.algebra s blocks) c.find_map.ensures.runs
    (λ i o q call. (search (rules, tests), λ l. search (rules, tests)))
