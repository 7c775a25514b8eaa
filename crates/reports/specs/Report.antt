-- The report on an input: one above the limit is refused before the image check, and then the check decides.
use Rattle.std.specs.Prelude.{ℕ, cond, List, length, Ok, Err, Result, nat_lt}
use Rattle.images.specs.declared.Head.{Head}
use Rattle.images.specs.declared.ImageRefusal.{ImageRefusal}
use Rattle.images.specs.Image.{refusal_number, checked}
use Rattle.reports.specs.declared.InputRefusal.{InputRefusal}
use Rattle.reports.specs.declared.InputRefusal.TheVariants.{TooLong, Image}

abbrev pub input_refusal_number : InputRefusal → ℕ
input_refusal_number TooLong = 24
input_refusal_number (Image r) = refusal_number r

abbrev pub of_check : Result Head ImageRefusal → Result Head InputRefusal
of_check (Ok h) = Ok h
of_check (Err r) = Err (Image r)

abbrev pub reported : List ℕ → Result Head InputRefusal
reported bytes = cond (nat_lt 65536 (length bytes)) (Err TooLong) (of_check (checked bytes))
