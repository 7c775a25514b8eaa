-- The line that a head prints, without the line's end.
use Rattle.std.specs.Prelude.{ℕ, List, [], ◌∷◌, ◌++◌, codes, decimal, flat_map}
use Rattle.images.specs.declared.Head.{Head}
use Rattle.images.specs.Image.{field_number}

-- the field number, k, p, n and m, a space before each: n stands before m here, and after it in the head
abbrev pub head_text : Head → List ℕ
head_text h = codes "tray" ++ flat_map (λ v. codes " " ++ decimal v) (field_number h.field ∷ h.data_rows ∷ h.parity_rows ∷ h.block_length ∷ h.card_length ∷ [])
