-- Puts that were written down, as a list.
use Rattle.std.proofs.Common.{◌≡◌, ℕ, subst, ◌+◌, ◌*◌, ◌-◌, ◌^◌, ◌<◌, ◌≤◌, min, List, [], ◌∷◌, ◌++◌, length, take, drop, eqb, ◌&&◌, refl, sym, ap, ap₂, ◌∙◌, inl, inr, arith, append_assoc, length-append, length-take, length-drop}
use Rattle.std.proofs.Math.Seq.{take-append_seam, take-append-add, drop-append_seam}
use Rattle.std.specs.List.{All}
use Rattle.std.proofs.lemmas.Bool.{cases_lt}
use Rattle.std.proofs.lemmas.List.Elements.{All-nil, All-append, All-cons}
use Rattle.std.proofs.lemmas.List.{map-append, take_all, drop_all, take-append-le, drop-drop}
use Rattle.algebra.proofs.Cases.{by_cases}
use Rattle.algebra.specs.Algebra.{Field}
use Rattle.image_shelves.specs.Fields.{image_stores, BytesPut}
use Rattle.image_shelves.specs.declared.image.ImageShelf.{ImageShelf}
use Rattle.rules.specs.Calls.{Answer, intake, write}
use Rattle.rules.specs.Promises.{Promise, rejected, accepted, did_intake}
use Rattle.rules.specs.declared.Refusal.{Refusal}
use Rattle.rules.specs.Order.{card_places, written_places}
use Rattle.std.specs.Prelude.{Ok, Err, Result, OnOk, OnErr}
use Rattle.rules.specs.States.{State}
use Rattle.rules.specs.Views.{seen, seen_contents}
use Rattle.rules.specs.declared.Sizes.{Sizes}
use Rattle.shelves.specs.Contents.{Contents, within, after_put}
use Rattle.shelves.specs.Puts.{PutsAt, ByPuts, unput, then_put}
use Rattle.shelves.proofs.Contents.{same_contents}
use Rattle.shelves.proofs.Puts.{puts_after, all_after, puts_keep, puts_shown}
use Rattle.tray.specs.State.{state, answer_of}
use Rattle.tray.specs.declared.Tray.{Tray}
use Rattle.ffi.specs.Answers.{written_over, written_at}
use Rattle.ffi.specs.Puts.{Put, put_numbers, put_places, places_if, after_puts, PutsOf}
use Rattle.ffi.specs.Recorded.{Recording}
use Rattle.ffi.specs.declared.recorded.Recorded.{Recorded}
use Rattle.ffi.proofs.Rows.{written_beyond}

-- numbers written behind those before them
written_next : (ns xs room : List ℕ) (at : ℕ) → min at (length room) ≡ min (length ns) (length room) → written_at at xs (written_over ns room) ≡ written_over (ns ++ xs) room
written_next ns xs room at e =
    elim (cases_lt (length ns) (length room)) [
      | inl h ↦ (
          let is : at ≡ length ns = omega arith in
          let rest = drop (length ns) room in
          let whole : written_over ns room ≡ ns ++ rest = ap (λ (v : List ℕ). v ++ rest) (take_all (length room) ns (omega arith)) in
          let sum : length ns + length rest ≡ length room = omega (arith, length-drop (length ns) room) in
          ap₂ (λ (k : ℕ) (v : List ℕ). written_at k xs v) is whole
          ∙ ap₂ (λ (a b : List ℕ). a ++ written_over xs b) (take-append_seam ns rest) (drop-append_seam ns rest)
          ∙ sym (append_assoc ns (take (length rest) xs) (drop (length xs) rest))
          ∙ ap₂ (λ (a b : List ℕ). a ++ b)
          (sym (take-append-add ns xs (length rest)) ∙ ap (λ (v : ℕ). take v (ns ++ xs)) sum)
          (drop-drop (length xs) (length ns) room ∙ ap (λ (v : ℕ). drop v room) (sym (length-append ns xs))))
      | inr h ↦ (
          let long : length (written_over ns room) ≤ at = simp (length-append, length-take, length-drop) (omega arith) in
          let more : length room ≤ length (ns ++ xs) = omega (arith, length-append ns xs) in
          written_beyond at xs (written_over ns room) long
          ∙ ap₂ (λ (a b : List ℕ). a ++ b) (sym (take-append-le (length room) ns xs h)) (drop_all (length ns) room h ∙ sym (drop_all (length (ns ++ xs)) room more)))
    ]

numbers_more : (puts more : List Put) → put_numbers (puts ++ more) ≡ put_numbers puts ++ put_numbers more
numbers_more [] more = refl
numbers_more (put ∷ puts) more = ap (λ (v : List ℕ). put.row ∷ (put.place ∷ (put.number ∷ v))) (numbers_more puts more)

numbers_length : (puts : List Put) → length (put_numbers puts) ≡ 3 * length puts
numbers_length [] = refl
numbers_length (put ∷ puts) = omega (arith, numbers_length puts)

-- a put, seen by elements
seen_put : {X A : Type 0} (meaning : X → A) (c : Contents X) (row place : ℕ) (x : X) → seen_contents meaning (after_put c row place x) ≡ after_put (seen_contents meaning c) row place (meaning x)
seen_put meaning c row place x =
    same_contents (seen_contents meaning (after_put c row place x)) (after_put (seen_contents meaning c) row place (meaning x)) refl refl (λ r t.
    by_cases (within c.rows c.places r t) (λ i. by_cases (eqb r row && eqb t place) (λ s. rw (i, s)) (λ s. rw (i, s))) (λ o. rw o))

module _ {A : Type 0} (F : Field A) where
  puts_more : (puts more : List Put) (c : Contents A) → after_puts F (puts ++ more) c ≡ after_puts F more (after_puts F puts c)
  puts_more [] more c = refl
  puts_more (put ∷ puts) more c = puts_more puts more (after_put c put.row put.place (F.element put.number))

module _ {S X A : Type 0} (stores : S → ℕ → ℕ → X → S → Type 0) (contents : S → Contents X) (meaning : X → A) (F : Field A) where
  -- what was put since nothing was counted
  pub record Listed (before : Recorded S) (places : List (ℕ × ℕ)) (after : Recorded S) : Type 0 where
    pub made : List Put
    pub order : put_places made ≡ places
    pub numbered : All (λ put. put.number < F.size) made
    pub by_puts : seen_contents meaning (contents after.inner) ≡ after_puts F made (seen_contents meaning (contents before.inner))
    pub count : after.count ≡ min (length made) (2 ^ 64 - 1)
    pub noted : after.puts.now ≡ written_over (put_numbers made) before.puts.now

  pub listed : {a b : Recorded S} {places : List (ℕ × ℕ)} → a.count ≡ 0 → length a.puts.now < 2 ^ 64 → PutsAt (Recording stores contents (λ x. F.number (meaning x))) a places b → Listed a places b
  listed {a} none room unput = record {
    made = [];
    order = refl;
    numbered = All-nil (λ put. put.number < F.size);
    by_puts = refl;
    count = none;
    noted = sym (ap (λ (v : List ℕ). v ++ a.puts.now) (take_all (length a.puts.now) [] (omega arith)));
  }
  listed {a} none room (then_put {s = s} q row place x d) =
      let L = listed none room q in
      let put : Put = record { row = row; place = place; number = F.number (meaning x) } in
      let now = seen_contents meaning (contents a.inner) in
      let long : length (L.made ++ put ∷ []) ≡ length L.made + 1 = length-append L.made (put ∷ []) in
      let at : min (3 * s.count) (length a.puts.now) ≡ min (length (put_numbers L.made)) (length a.puts.now) = omega (arith, L.count, numbers_length L.made) in
      record {
        made = L.made ++ put ∷ [];
        order = map-append (λ (v : Put). (v.row, v.place)) L.made (put ∷ []) ∙ ap (λ v. v ++ ((row, place) ∷ [])) L.order;
        numbered = All-append (λ put. put.number < F.size) L.made (put ∷ []) L.numbered (All-cons (λ put. put.number < F.size) put [] (F.number_bound (meaning x)) (All-nil (λ put. put.number < F.size)));
        by_puts =
            ap (seen_contents meaning) d.held ∙ seen_put meaning (contents s.inner) row place x
            ∙ ap₂ (λ (c : Contents A) (e : A). after_put c row place e) L.by_puts (sym (F.element_number (meaning x)))
            ∙ sym (puts_more F L.made (put ∷ []) now);
        count = omega (arith, d.count, L.count, long);
        noted =
            d.puts ∙ ap (λ (v : List ℕ). written_at (3 * s.count) (row ∷ (place ∷ (F.number (meaning x) ∷ []))) v) L.noted
            ∙ written_next (put_numbers L.made) (row ∷ (place ∷ (F.number (meaning x) ∷ []))) a.puts.now (3 * s.count) at
            ∙ ap (λ (v : List ℕ). written_over v a.puts.now) (sym (numbers_more L.made (put ∷ [])));
      }

module _ {X A : Type 0} (kind width : ℕ) (image : List ℕ → Contents X) (meaning : X → A) (F : Field A) where
  abbrev held : Recorded (ImageShelf X) → Contents X
  held s = image s.inner.bytes.now

  abbrev recording : Recorded (ImageShelf X) → ℕ → ℕ → X → Recorded (ImageShelf X) → Type 0
  recording = Recording (image_stores kind width (λ x. F.number (meaning x))) (λ s. image s.bytes.now) (λ x. F.number (meaning x))

  -- after the puts of two calls the bytes and the room are still the same
  pub same_image : {a b c : Recorded (ImageShelf X)} → ByPuts recording a b → ByPuts recording b c → c.inner.bytes.ghost_name ≡ a.inner.bytes.ghost_name
  same_image p q = puts_keep recording (λ s. s.inner.bytes.ghost_name) (λ s row place x after d. d.inner.same) (all_after recording p q)

  pub same_room : {a b c : Recorded (ImageShelf X)} → ByPuts recording a b → ByPuts recording b c → c.puts.ghost_name ≡ a.puts.ghost_name
  same_room p q = puts_keep recording (λ s. s.puts.ghost_name) (λ s row place x after d. d.same) (all_after recording p q)

  abbrev cards : Sizes → List (ℕ × ℕ)
  cards sizes = card_places sizes (sizes.data_rows + sizes.parity_rows)

  recorded_bytes : {a b : Recorded (ImageShelf X)} → ByPuts recording a b → BytesPut kind width F.size a.inner.bytes.now b.inner.bytes.now
  recorded_bytes = puts_shown recording (λ s. s.inner.bytes.now) (λ x. F.number (meaning x)) _ (λ s row place x after d. (F.number_bound (meaning x), d.inner.bytes))

  -- an intake leaves the sizes
  sizes_kept : (s s' : State A) (answer : Answer A) → Promise F s intake answer s' → s'.sizes ≡ s.sizes
  sizes_kept s _ _ (rejected r line first) = refl
  sizes_kept s _ _ (accepted none did_intake) = refl

  -- the puts of a call, by its result
  pub made_at : (a b : Tray (Recorded (ImageShelf X)) X) (places : List (ℕ × ℕ)) (r : Result (Unit {0}) Refusal) → OnOk r (PutsAt recording a.shelf places b.shelf) → OnErr r (b ≡ a) → PutsAt recording a.shelf (places_if {A = A} (answer_of r) places) b.shelf
  made_at a b places (Ok u) p e = p
  made_at a b places (Err r) p e = subst (λ (v : Recorded (ImageShelf X)). PutsAt recording a.shelf [] v) (ap (λ (v : Tray (Recorded (ImageShelf X)) X). v.shelf) (sym e)) unput

  -- two calls on a new tray, and what it is taken apart into
  pub puts_of : (sizes : Sizes) (row start : ℕ) (symbols : List A) (bytes room : List ℕ) (answered : ℕ) (bytes' room' : List ℕ) (first middle last : Tray (Recorded (ImageShelf X)) X) (taken written : Answer A)
      → state held meaning first ≡ seen meaning sizes (image bytes) → first.shelf.inner.bytes.now ≡ bytes → first.shelf.puts.now ≡ room → first.shelf.count ≡ 0 → length room < 2 ^ 64
      → Promise F (state held meaning first) intake taken (state held meaning middle) → PutsAt recording first.shelf (places_if taken (cards first.sizes)) middle.shelf
      → Promise F (state held meaning middle) (write row start symbols) written (state held meaning last) → (count : ℕ) → length symbols ≡ count → PutsAt recording middle.shelf (places_if written (written_places middle.sizes row start count)) last.shelf
      → answered ≡ last.shelf.count → bytes' ≡ last.shelf.inner.bytes.now → room' ≡ last.shelf.puts.now
      → PutsOf kind width image meaning F sizes row start symbols bytes room answered bytes' room'
  puts_of sizes row start symbols bytes room answered bytes' room' first middle last taken written begins held_is room_is none short taking taking_puts writing count counted writing_puts count_is left_is noted_is =
      let puts = puts_after recording taking_puts writing_puts in
      let fits : length first.shelf.puts.now < 2 ^ 64 = omega (arith, ap length room_is) in
      let L = listed (image_stores kind width (λ x. F.number (meaning x))) (λ s. image s.bytes.now) meaning F none fits puts in
      let left : seen_contents meaning (image bytes') ≡ (state held meaning last).contents = ap (λ (v : List ℕ). seen_contents meaning (image v)) left_is in
      record {
        middle = state held meaning middle;
        last = state held meaning last;
        taken = taken;
        written = written;
        intakes = subst (λ (s : State A). Promise F s intake taken (state held meaning middle)) begins taking;
        writes = writing;
        left = left;
        bytes_put = subst (λ (v : List ℕ). BytesPut kind width F.size bytes v) (sym left_is) (subst (λ (v : List ℕ). BytesPut kind width F.size v last.shelf.inner.bytes.now) held_is (recorded_bytes (record { places = _; puts = puts })));
        made = L.made;
        order = L.order ∙ ap₂ (λ (u v : Sizes). places_if taken (cards u) ++ places_if written (written_places v row start count)) (ap (λ (s : State A). s.sizes) begins) (sizes_kept (state held meaning first) (state held meaning middle) taken taking ∙ ap (λ (s : State A). s.sizes) begins)
            ∙ ap (λ (v : ℕ). places_if taken (cards sizes) ++ places_if written (written_places sizes row start v)) (sym counted);
        numbered = L.numbered;
        by_puts = left ∙ L.by_puts ∙ ap (λ (v : List ℕ). after_puts F L.made (seen_contents meaning (image v))) held_is;
        count = count_is ∙ L.count;
        noted = noted_is ∙ L.noted ∙ ap (written_over (put_numbers L.made)) room_is;
      }
