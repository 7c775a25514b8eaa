-- What a put leaves of bytes: a mark and a code are new, and every other byte and region is as it stood.
use Rattle.std.proofs.Common.{◌≡◌, ℕ, ◌+◌, ◌-◌, ◌<◌, ◌≤◌, ◌≢◌, List, ◌++◌, length, get_or, take, drop, set, sym, ap, ◌∙◌, arith, length-append, length-drop, length-set, length-take, get_or-set_other, get_or-set_same}
use Rattle.std.proofs.lemmas.List.{get_or-take, take-take, take_at, drop_at, drop-take, drop-set-lt, take-append-le, drop-drop}

module _ (old cs : List ℕ) (mark from w : ℕ) (before : mark < from) (fits : from + w ≤ length old) (long : length cs ≡ w) where
  abbrev marked_bytes : List ℕ
  marked_bytes = set old mark 1

  abbrev pub new : List ℕ
  new = take from (set old mark 1) ++ (cs ++ drop (from + w) old)

  front_length : length (take from marked_bytes) ≡ from
  front_length = simp (length-take, length-set) (omega arith)

  pub new_length : length new ≡ length old
  new_length = simp (length-append, length-take, length-set, length-drop) (omega arith)

  -- the front is as it was, but for the mark
  front : (n : ℕ) → n ≤ from → take n new ≡ take n marked_bytes
  front n h =
      let l : n ≤ length (take from marked_bytes) = omega (arith, front_length) in
      take-append-le n (take from marked_bytes) (cs ++ drop (from + w) old) l ∙ take-take n from marked_bytes h

  byte : (j : ℕ) → j < from → get_or new j 0 ≡ get_or marked_bytes j 0
  byte j h = sym (get_or-take from new j 0 h) ∙ ap (λ l. get_or l j 0) (front from (omega arith)) ∙ get_or-take from marked_bytes j 0 h

  pub other_byte : (j : ℕ) → j < from → j ≢ mark → get_or new j 0 ≡ get_or old j 0
  other_byte j h ne = byte j h ∙ get_or-set_other old mark j 1 0 ne

  pub mark_byte : get_or new mark 0 ≡ 1
  mark_byte = byte mark before ∙ get_or-set_same old mark 1 0 (omega arith)

  rest : drop from new ≡ cs ++ drop (from + w) old
  rest = drop_at (take from marked_bytes) (cs ++ drop (from + w) old) from front_length

  pub code_bytes : take w (drop from new) ≡ cs
  code_bytes = ap (take w) rest ∙ take_at cs (drop (from + w) old) w long

  -- a region that ends before the code
  pub region_before : (o : ℕ) → mark < o → o + w ≤ from → take w (drop o new) ≡ take w (drop o old)
  region_before o h k =
      sym (drop-take o w new) ∙ ap (drop o) (front (o + w) k) ∙ drop-take o w marked_bytes ∙ ap (take w) (drop-set-lt o old mark 1 h)

  -- and one that begins behind it
  pub region_behind : (o : ℕ) → from + w ≤ o → take w (drop o new) ≡ take w (drop o old)
  region_behind o h =
      let t : ℕ = o - (from + w) in
      let e : from + w + t ≡ o = omega arith in
      let behind : drop (from + w) new ≡ drop (from + w) old = sym (drop-drop w from new) ∙ ap (drop w) rest ∙ drop_at cs (drop (from + w) old) w long in
      let all : drop (from + w + t) new ≡ drop (from + w + t) old = sym (drop-drop t (from + w) new) ∙ ap (drop t) behind ∙ drop-drop t (from + w) old in
      ap (take w) (ap (λ n. drop n new) (sym e) ∙ all ∙ ap (λ n. drop n old) e)
