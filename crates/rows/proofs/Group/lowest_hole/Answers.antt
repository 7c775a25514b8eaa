use Rattle.std.proofs.Common.{◌≡◌, ℕ, ◌+◌, ◌<◌, Bool, true, false, rules, tests}
use Rattle.std.proofs.lemmas.Iterator.{first_from_Range}
use Rattle.rules.proofs.Loops.{lowest_found}
use Rattle.shelves.specs.Contents.{is_hole}
use Rattle.rows.proofs.Group.lowest_hole.Goals as goal

pub returns : goal.returns
returns g c room =
    let test : ℕ → Bool = λ t. is_hole ((g.S.Shelf.contents c.args.self.now.shelf.now).at c.args.row (c.args.start + t)) in
    lowest_found c.args.places test c.find.result
    (first_from_Range _ _ _ c.find.result (λ t. t < c.args.places → test t ≡ true) (λ t. t < c.args.places → test t ≡ false) c.find.ensures.ran
    (λ t q k. search (rules, tests)) (λ t q k. search (rules, tests)))
