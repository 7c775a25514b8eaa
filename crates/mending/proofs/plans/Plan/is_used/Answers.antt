use Rattle.std.proofs.Common.{ap, ◌∙◌, ltb, arith}
use Rattle.mending.specs.Plans.{flag}
use Rattle.mending.proofs.Gathering.{counted_from}
use Rattle.mending.proofs.plans.Plan.is_used.Goals as goal

pub returns : goal.returns
returns c h =
    ap (λ n. ltb n c.args.self.now.choice.lost.count) (c.sound_among.ensures ∙ counted_from (flag c.args.damage.now) c.args.sizes.data_rows c.args.i (omega arith))
