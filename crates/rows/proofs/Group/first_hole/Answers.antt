use Rattle.std.proofs.Common.{ℕ, ◌+◌, Bool, ap, ◌∙◌, rules, tests}
use Rattle.rules.specs.Search.{lowest_pair}
use Rattle.rules.proofs.Mapped.{lowest_pair_mapped}
use Rattle.shelves.specs.Contents.{is_hole}
use Rattle.rows.proofs.Group.first_hole.Goals as goal

pub returns : goal.returns
returns g c room =
    let test : ℕ → ℕ → Bool = λ row t. is_hole ((g.S.Shelf.contents c.args.self.now.shelf.now).at row (c.args.start + t)) in
    lowest_pair_mapped c.rows.result c.args.places _ c.find_map.result test c.find_map.ensures.runs
    (λ row o q call. (search (rules, tests), λ l. search (rules, tests)))
    ∙ ap (λ rows. lowest_pair rows c.args.places test) c.rows.ensures
