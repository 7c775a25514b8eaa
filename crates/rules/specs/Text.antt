-- Numbers as text: in base ten, one space between two.
use Rattle.std.specs.Prelude.{ℕ, List, [], ◌∷◌, ◌++◌, codes, decimal, flat_map}

-- a number after a space
abbrev pub spaced : ℕ → List ℕ
spaced v = codes " " ++ decimal v

abbrev pub numbers_text : List ℕ → List ℕ
numbers_text [] = []
numbers_text (v ∷ vs) = decimal v ++ flat_map spaced vs
