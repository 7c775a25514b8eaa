-- Byte codes: the number that a code stands for.
use Rattle.std.proofs.Common.{◌≡◌, ℕ, zero, suc, ◌+◌, ◌*◌, ◌/◌, ◌%◌, ◌^◌, ◌<◌, List, [], ◌∷◌, ◌++◌, length, get_or, take, drop, set, sym, refl, ap, ◌∙◌, ap₂, mod-eq_of_lt, pow-suc, arith, lit<, length-append}
use Rattle.std.proofs.Math.Nat.{pow-succ', pow-zero, one-le-pow, mod-one, div-div-eq-div-mul}
use lib.Arith.{mod-mul}
use Rattle.std.proofs.lemmas.List.{take_more, drop-set}
use Rattle.algebra.specs.Code.{code, coded}

pub length_code : (w v : ℕ) → length (code w v) ≡ w
length_code zero v = refl
length_code (suc w) v = ap suc (length_code w v)

pub coded_mod : (w v : ℕ) → coded (code w v) ≡ v % 256 ^ w
coded_mod zero v = rw (pow-zero 256) (sym (mod-one v))
coded_mod (suc w) v =
    rw (length_code w v, coded_mod w v, pow-succ' 256 w) (sym (mod-mul v {m = 256} {c = 256 ^ w} (lit< tt) (one-le-pow w 256 (lit< tt))))

pub coded_code : (w v : ℕ) → v < 256 ^ w → coded (code w v) ≡ v
coded_code w v h = coded_mod w v ∙ mod-eq_of_lt h

coded_snoc : (xs : List ℕ) (b : ℕ) → coded (xs ++ b ∷ []) ≡ coded xs * 256 + b
coded_snoc [] b = omega arith
coded_snoc (x ∷ xs) b =
    let l : length (xs ++ b ∷ []) ≡ suc (length xs) = simp length-append (omega arith) in
    rw (l, coded_snoc xs b, pow-succ' 256 (length xs)) (omega arith)

-- one byte more
pub coded_more : (xs : List ℕ) (i : ℕ) → i < length xs → coded (take (i + 1) xs) ≡ coded (take i xs) * 256 + get_or xs i 0
coded_more xs i h = rw (take_more xs i 0 h) (coded_snoc (take i xs) (get_or xs i 0))

-- one byte more before those that are written: `rest` is what is left of the number, from its end
pub one_more : (number rest k : ℕ) (bytes : List ℕ) → k < length bytes
    → rest ≡ number / 256 ^ length (drop (k + 1) bytes) → drop (k + 1) bytes ≡ code (length (drop (k + 1) bytes)) number
    → (rest / 256 ≡ number / 256 ^ length (drop k (set bytes k (rest % 256))))
    × (drop k (set bytes k (rest % 256)) ≡ code (length (drop k (set bytes k (rest % 256)))) number)
one_more number rest k bytes h e f =
    rw (drop-set bytes k (rest % 256) h)
    (rw e (div-div-eq-div-mul number (256 ^ length (drop (k + 1) bytes)) 256 ∙ ap (λ n. number / n) (sym (pow-suc 256 _))), ap₂ ◌∷◌ (ap (λ r. r % 256) e) f)
