-- The byte code of a number: so many bytes, the highest first.
use Rattle.std.specs.Prelude.{ℕ, zero, suc, ◌+◌, ◌*◌, ◌/◌, ◌%◌, ◌^◌, cond, ◌&&◌, List, [], ◌∷◌, length, Some, None, Option, Ok, Err, Result, ◌==◌, nat_lt}
use Rattle.algebra.specs.declared.WrongLength.{WrongLength}

-- the lowest w bytes of a number
abbrev pub code : ℕ → ℕ → List ℕ
code zero v = []
code (suc w) v = v / 256 ^ w % 256 ∷ code w v

-- the number that bytes code
abbrev pub coded : List ℕ → ℕ
coded [] = 0
coded (b ∷ bytes) = b * 256 ^ length bytes + coded bytes

-- the number that bytes code, in a field of q elements with codes of w bytes, where they code an element
abbrev pub decoded : ℕ → ℕ → List ℕ → Option ℕ
decoded w q bytes = cond (length bytes == w && nat_lt (coded bytes) q) (Some (coded bytes)) None

-- what the writing of a code of w bytes answers over bytes of a length: refused where they are not as many
abbrev pub encode_answer : ℕ → ℕ → Result (Unit {0}) WrongLength
encode_answer w l = cond (l == w) (Ok tt) (Err (record {}))
