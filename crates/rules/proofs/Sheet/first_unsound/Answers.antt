use Rattle.std.proofs.Common.{rules, tests}
use Rattle.std.proofs.lemmas.Iterator.{first_from_Range}
use Rattle.rules.specs.Updates.{entry_at, entry_bad}
use Rattle.rules.proofs.Loops.{lowest_found}
use Rattle.rules.proofs.Sheet.first_unsound.Goals as goal

pub returns : goal.returns
returns c =
    lowest_found c.args.rows (λ r. entry_bad (entry_at c.args.self.now r)) c.find.result (first_from_Range _ _ _ c.find.result _ _ c.find.ensures.ran (λ row q k. search (rules, tests)) (λ row q k. search (rules, tests)))
