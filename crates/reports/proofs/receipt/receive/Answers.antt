use Rattle.std.proofs.Common.{rules}
use Rattle.reports.proofs.Once.{only_receipt}
use Rattle.reports.proofs.receipt.receive.Goals as goal

pub returns-clause-only : goal.returns-clause-only
returns-clause-only c = only_receipt c.args.bytes.now _ (search rules)
