-- An image's contents in lent memory without marks.
use Rattle.std.specs.Prelude.{nat_le, cond}
use Rattle.std.proofs.Common.{◌≡◌, ℕ, ◌+◌, ◌*◌, true, false, eqb, min, List, length, take, get_or, refl, sym, ap, ◌∙◌, arith, inl, inr, get_or-take, length-take}
use Rattle.std.proofs.lemmas.Bool.{cases_lt, and_left}
use Rattle.std.proofs.lemmas.Bool.Decides.{nat_tests}
use Rattle.std.proofs.lemmas.List.{get_or_past}
use Rattle.algebra.proofs.Cases.{by_cases}
use Rattle.shelves.specs.Contents.{Contents, Cell, symbol, hole, inside, nothing}
use Rattle.shelves.specs.Memory.{memory, laid, sized, marked, stored}
use Rattle.shelves.proofs.Contents.{same_contents, hole_is, none_within}
use Rattle.ffi.specs.Copies.{overlaid, copied, lent_contents}

over_hole : {X : Type 0} (c : Cell X) → overlaid c hole ≡ c
over_hole (symbol x) = refl
over_hole hole = refl

no_mark : (marks : List ℕ) (size i : ℕ) → ((i : ℕ) → get_or marks i 0 ≡ 0) → get_or (take size marks) i 0 ≡ 0
no_mark marks size i none =
    elim (cases_lt i size) [
      | inl h ↦ get_or-take size marks i 0 h ∙ none i
      | inr h ↦ get_or_past (take size marks) i 0 (omega (arith, length-take size marks))
    ]

module _ {X : Type 0} (image : Contents X) where
  -- all of the image
  whole_lent : (symbols : List X) (marks : List ℕ) → ((i : ℕ) → get_or marks i 0 ≡ 0) → copied image (laid image.rows image.places symbols marks) ≡ image
  whole_lent symbols marks none =
      same_contents (copied image (laid image.rows image.places symbols marks)) image refl refl (λ r c.
      by_cases (inside image r c)
      (λ t.
      let blank : marked (get_or marks (r * image.places + c) 0) (stored symbols (r * image.places + c)) ≡ hole = ap (λ v. marked v (stored symbols (r * image.places + c))) (none (r * image.places + c)) in
      rw (t, blank) (over_hole (image.at r c)))
      (λ f. let h = hole_is (image.at r c) (image.beyond r c f) in rw (f, h)))

  -- none of it
  none_lent : copied image nothing ≡ nothing
  none_lent = same_contents (copied image nothing) nothing refl refl (λ r c. rw (none_within r c))

  pub lent_is : (symbols : List X) (marks : List ℕ) (size : ℕ) → ((i : ℕ) → get_or marks i 0 ≡ 0) → size ≡ min (image.rows * image.places) (min (length symbols) (length marks))
      → copied image (memory image.rows image.places (take size symbols) (take size marks)) ≡ lent_contents (min (length symbols) (length marks)) image
  lent_is symbols marks size none e =
      let room = min (length symbols) (length marks) in
      let long : length (take size symbols) ≡ size = omega (arith, length-take size symbols) in
      let marked_long : length (take size marks) ≡ size = omega (arith, length-take size marks) in
      elim (cases_lt room (image.rows * image.places)) [
        | inl h ↦ (
            let small : nat_le (image.rows * image.places) room ≡ false = grind (arith, nat_tests) in
            let off : eqb (image.rows * image.places) (length (take size symbols)) ≡ false = grind (arith, nat_tests) in
            let unsized : sized image.rows image.places (take size symbols) (take size marks) ≡ false = and_left _ _ off in
            rw (unsized, small) none_lent)
        | inr h ↦ (
            let fits : nat_le (image.rows * image.places) room ≡ true = grind (arith, nat_tests) in
            let on : sized image.rows image.places (take size symbols) (take size marks) ≡ true = grind (arith, nat_tests) in
            rw (on, fits) (whole_lent (take size symbols) (take size marks) (λ i. no_mark marks size i none)))
      ]

  -- room for the image's places and no more is as good as all of the room
  pub room_enough : (size room : ℕ) → size ≡ min (image.rows * image.places) room → lent_contents size image ≡ lent_contents room image
  room_enough size room e =
      elim (cases_lt room (image.rows * image.places)) [
        | inl h ↦ (
            let few : nat_le (image.rows * image.places) size ≡ false = grind (arith, nat_tests) in
            let none : nat_le (image.rows * image.places) room ≡ false = grind (arith, nat_tests) in
            ap (λ b. cond b image nothing) (few ∙ sym none))
        | inr h ↦ (
            let enough : nat_le (image.rows * image.places) size ≡ true = grind (arith, nat_tests) in
            let all : nat_le (image.rows * image.places) room ≡ true = grind (arith, nat_tests) in
            ap (λ b. cond b image nothing) (enough ∙ sym all))
      ]
