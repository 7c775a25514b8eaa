use Rattle.std.proofs.Common.{◌≡◌, ℕ, take, length, not, min, eqb, ap, ◌∙◌, arith}
use Rattle.std.proofs.lemmas.List.{take_min}
use Rattle.std.specs.List.{list_any}
use Rattle.mending.specs.Plans.{flag}
use Rattle.mending.proofs.Damage.is_sound.Goals as goal

pub returns : goal.returns
unfolding flag
returns c =
    let damage = c.args.self.now in
    let four : 4 ≡ length damage.rows = omega arith in
    ap not (c.contains.ensures.value
    ∙ ap (λ taken. list_any (λ unsound. eqb unsound c.args.row) taken) (ap (λ (n : ℕ). take n damage.rows) (c.min.ensures ∙ ap (min damage.count) four) ∙ take_min damage.count damage.rows))
