use Rattle.std.proofs.Common.{◌≡◌, ◌∙◌, ap}
use Rattle.std.proofs.lemmas.Result.{on_err_weaker}
use Rattle.image_shelves.proofs.Puts.{same_bytes, bytes_put}
use Rattle.reports.proofs.receipt.take_in_bytes.Goals as goal

pub returns-clause-same : goal.returns-clause-same
returns-clause-same g c =
    ap (λ v. v.ghost_name) c.into_bytes.ensures
    ∙ same_bytes g.F.CodedField.kind g.F.CodedField.width (λ x. g.F.Field.algebra.number (g.F.Field.meaning x)) c.take_in-intake.ensures.puts
    ∙ c.over.ensures.lent.same

pub returns-clause-outcome : goal.returns-clause-outcome
returns-clause-outcome g c = rw c.over.ensures.lent.bytes at c.take_in-intake.ensures.outcome

pub returns-clause-left : goal.returns-clause-left
returns-clause-left g c =
    let F = g.F.Field.algebra in
    let before = c.over.ensures.lent.bytes in
    let after : c.into_bytes.result.now ≡ c.take_in-intake.result.1.bytes.now = ap (λ v. v.now) c.into_bytes.ensures in
    record {
      contents = rw after (rw before at c.take_in-intake.ensures.left);
      puts = rw after (rw before at (bytes_put g.F.CodedField.kind g.F.CodedField.width (λ x. F.number (g.F.Field.meaning x)) F.size (λ x. F.number_bound (g.F.Field.meaning x)) c.take_in-intake.ensures.puts));
      refused = on_err_weaker c.take_in-intake.result.0 (λ same. after ∙ ap (λ v. v.bytes.now) same ∙ before) c.take_in-intake.ensures.refused;
    }
