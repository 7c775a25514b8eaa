-- Where the parts of an image lie, and what a put leaves of its contents.
use Rattle.std.proofs.Common.{◌≡◌, ℕ, ◌+◌, ◌*◌, ◌^◌, ◌<◌, ◌≤◌, true, false, ◌&&◌, eqb, ltb, ◌≢◌, List, length, get_or, take, drop, Some, None, Ok, Err, Option, Result, sym, refl, ap, ◌∙◌, ap₂, mul-le-mul_right, add-mul, mul-one, mul-add, arith, lt-ltb, eq-eqb, eqb-true}
use native.Mathlib.Decide.{dec_lt}
use lib.Arith.{digits_lt}
use Rattle.std.specs.Option.{option_map}
use Rattle.algebra.specs.Code.{code, coded, decoded}
use Rattle.algebra.proofs.Codes.{length_code, coded_code}
use Rattle.images.specs.declared.Head.{Head}
use Rattle.images.specs.declared.ImageRefusal.{ImageRefusal}
use Rattle.images.specs.Image.{field_number, code_width, row_count, place_count, checked}
use Rattle.images.proofs.Exact.{accepted_length, same_head}
use Rattle.shelves.specs.Contents.{symbol, within, inside, after_put}
use Rattle.shelves.specs.Memory.{marked}
use Rattle.shelves.proofs.Contents.{within_parts, none_within, put_beyond, put_filled, apart}
use Rattle.algebra.proofs.Cases.{by_cases}
use Rattle.std.proofs.lemmas.Bool.{and_parts}
use Rattle.std.proofs.lemmas.Option.{cond_some, none-some}
use Rattle.image_shelves.specs.declared.Spot.{Spot}
use Rattle.image_shelves.specs.Layout.{of_option, head_if_own, of_field, place_spot, spot_of, image_spot, cell_at, contents_of, image_contents, put_at, SpotWithin}
use Rattle.image_shelves.proofs.Regions.{new_length, other_byte, mark_byte, code_bytes, region_before, region_behind}

module _ (kind width : ℕ) where
  -- the head of an image of the field was accepted, and its codes have the field's width
  taken : (r : Result Head ImageRefusal) (h : Head) → of_field kind width r ≡ Some h → (r ≡ Ok h) × (code_width h.field ≡ width)
  taken (Err r) h e = absurd (none-some h e)
  taken (Ok g) h e =
      let t = cond_some (eqb (field_number g.field) kind && eqb (code_width g.field) width) g h e in
      (ap Ok t.1, ap (λ (v : Head). code_width v.field) (sym t.1) ∙ eqb-true _ _ (and_parts _ _ t.0).1)

  own_length : (bytes : List ℕ) (h : Head) → head_if_own kind width bytes ≡ Some h → length bytes ≡ 6 + row_count h * place_count h * (1 + width)
  own_length bytes h e =
      let t = taken (checked bytes) h e in
      accepted_length bytes h t.0 ∙ ap (λ w. 6 + row_count h * place_count h * (1 + w)) t.1

-- marks lie before codes, and codes within the bytes
spot_fits : (rows places w row place : ℕ) → row < rows → place < places
    → (6 + (row * places + place) < 6 + rows * places + (row * places + place) * w)
    × (6 + rows * places + (row * places + place) * w + w ≤ 6 + rows * places * (1 + w))
spot_fits rows places w row place h k =
    let i : ℕ = row * places + place in
    let below : i < rows * places = digits_lt h k in
    let m : (i + 1) * w ≤ rows * places * w = mul-le-mul_right w (omega arith) in
    let a = add-mul i 1 w in
    let d = mul-add (rows * places) 1 w in
    let o = mul-one (rows * places) in
    (omega arith, omega arith)

-- the spot that a program works out, from the sizes and the width that it asked for
pub spot_within : (kind w : ℕ) (bytes : List ℕ) (h : Head) (rows places u row place : ℕ) → head_if_own kind w bytes ≡ Some h
    → rows ≡ row_count h → places ≡ place_count h → u ≡ w → row < rows → place < places
    → SpotWithin w bytes (Some (record { mark = 6 + (row * places + place); code = 6 + rows * places + (row * places + place) * u }))
spot_within kind w bytes h rows places u row place own rs ps us below inside =
    let len : length bytes ≡ 6 + rows * places * (1 + u) = own_length kind w bytes h own ∙ sym (ap₂ (λ a b. 6 + a * (1 + b)) (ap₂ ◌*◌ rs ps) us) in
    let f = spot_fits rows places u row place below inside in
    (f.0, omega (arith, us, f.1))

-- the code of an element reads back as its number
read_back : (w q v : ℕ) → v < q → q ≤ 256 ^ w → decoded w q (code w v) ≡ Some v
read_back w q v h k =
    let c : coded (code w v) ≡ v = coded_code w v (omega arith) in
    let l = eq-eqb (length (code w v)) w (length_code w v) in
    let s : ltb v q ≡ true = lt-ltb v q h in
    rw (l, c, s)

module _ {A : Type 0} (kind w q : ℕ) (sym_of : ℕ → A) where
  no_spot : (bytes : List ℕ) (row place : ℕ) → None ≡ image_spot kind w bytes row place → inside (image_contents kind w q sym_of bytes) row place ≡ false
  no_spot bytes row place e = outside (head_if_own kind w bytes) e
    where
      outside : (o : Option Head) → None ≡ spot_of w o row place → inside (contents_of w q sym_of bytes o) row place ≡ false
      outside None n = none_within row place
      outside (Some h) n =
          by_cases (within (row_count h) (place_count h) row place)
          (λ t. absurd (none-some (place_spot w h row place) (rw t at n)))
          (λ f. f)

  pub unchanged : (bytes : List ℕ) (row place : ℕ) (x : A) → None ≡ image_spot kind w bytes row place
      → image_contents kind w q sym_of bytes ≡ after_put (image_contents kind w q sym_of bytes) row place x
  unchanged bytes row place x e = sym (put_beyond (image_contents kind w q sym_of bytes) row place x (no_spot bytes row place e))

  -- what a known spot says of the head
  record Found (bytes : List ℕ) (row place : ℕ) (s : Spot) : Type 0 where
    pub head : Head
    pub own : head_if_own kind w bytes ≡ Some head
    pub in_range : within (row_count head) (place_count head) row place ≡ true
    pub is : s ≡ place_spot w head row place

  found : (bytes : List ℕ) (row place : ℕ) (s : Spot) → Some s ≡ image_spot kind w bytes row place → Found bytes row place s
  found bytes row place s e = by_head (head_if_own kind w bytes) refl e
    where
      by_head : (o : Option Head) → head_if_own kind w bytes ≡ o → Some s ≡ spot_of w o row place → Found bytes row place s
      by_head None own n = absurd (none-some s (sym n))
      by_head (Some h) own n =
          let t = cond_some (within (row_count h) (place_count h) row place) (place_spot w h row place) s (sym n) in
          record { head = h; own = own; in_range = t.0; is = sym t.1 }

  -- one put, at the head that the image has
  module _ (bytes : List ℕ) (h : Head) (row place v : ℕ) (own : head_if_own kind w bytes ≡ Some h) (in_range : within (row_count h) (place_count h) row place ≡ true) (small : v < q) (roomy : q ≤ 256 ^ w) where
    abbrev s : Spot
    s = place_spot w h row place

    row_below : row < row_count h
    row_below = (within_parts (row_count h) (place_count h) row place in_range).0

    place_below : place < place_count h
    place_below = (within_parts (row_count h) (place_count h) row place in_range).1

    before : s.mark < s.code
    before = (spot_fits (row_count h) (place_count h) w row place row_below place_below).0

    fits : s.code + w ≤ length bytes
    fits = omega (arith, own_length kind w bytes h own, (spot_fits (row_count h) (place_count h) w row place row_below place_below).1)

    abbrev after : List ℕ
    after = put_at w (Some s) v bytes

    same_own : head_if_own kind w after ≡ Some h
    same_own =
        ap (of_field kind w) (same_head after bytes (new_length bytes (code w v) s.mark s.code w before fits (length_code w v))
        (λ j l. other_byte bytes (code w v) s.mark s.code w before fits (length_code w v) j (omega arith) (λ e. omega arith)))
        ∙ own

    here : cell_at w q sym_of after s ≡ symbol (sym_of v)
    here =
        let m = mark_byte bytes (code w v) s.mark s.code w before fits (length_code w v) in
        let c = code_bytes bytes (code w v) s.mark s.code w before fits (length_code w v) in
        let d = read_back w q v small roomy in
        rw (m, c, d)

    elsewhere : (r c : ℕ) → within (row_count h) (place_count h) r c ≡ true → (eqb r row && eqb c place) ≡ false
        → cell_at w q sym_of after (place_spot w h r c) ≡ cell_at w q sym_of bytes (place_spot w h r c)
    elsewhere r c i n =
        let below = within_parts (row_count h) (place_count h) r c i in
        let rb : r < row_count h = below.0 in
        let cb : c < place_count h = below.1 in
        let j : ℕ = r * place_count h + c in
        let k : ℕ = row * place_count h + place in
        let ne : j ≢ k = apart (place_count h) r c row place cb place_below n in
        let jb : j < row_count h * place_count h = digits_lt rb cb in
        let marks : get_or after (6 + j) 0 ≡ get_or bytes (6 + j) 0 =
        other_byte bytes (code w v) s.mark s.code w before fits (length_code w v) (6 + j) (omega arith) (λ e. ne (omega arith)) in
        let o : ℕ = 6 + row_count h * place_count h + j * w in
        let codes : take w (drop o after) ≡ take w (drop o bytes) = elim (dec_lt j k) [
          | yes less ↦
              let m : (j + 1) * w ≤ k * w = mul-le-mul_right w (omega arith) in
              region_before bytes (code w v) s.mark s.code w before fits (length_code w v) o (omega (arith, digits_lt row_below place_below)) (omega (arith, m, add-mul j 1 w))
          | no more ↦
              let m : (k + 1) * w ≤ j * w = mul-le-mul_right w (omega arith) in
              region_behind bytes (code w v) s.mark s.code w before fits (length_code w v) o (omega (arith, m, add-mul k 1 w))
        ] in
        ap₂ (λ (a : ℕ) (l : List ℕ). marked a (of_option (option_map sym_of (decoded w q l)))) marks codes

    pub changed_at : image_contents kind w q sym_of after ≡ after_put (image_contents kind w q sym_of bytes) row place (sym_of v)
    changed_at =
        ap (contents_of w q sym_of after) same_own
        ∙ put_filled (row_count h) (place_count h) (λ r c. cell_at w q sym_of bytes (place_spot w h r c)) (λ r c. cell_at w q sym_of after (place_spot w h r c)) row place (sym_of v) here elsewhere
        ∙ ap (λ o. after_put (contents_of w q sym_of bytes o) row place (sym_of v)) (sym own)

  pub changed : (bytes : List ℕ) (row place v : ℕ) (s : Spot) → Some s ≡ image_spot kind w bytes row place → v < q → q ≤ 256 ^ w
      → image_contents kind w q sym_of (put_at w (Some s) v bytes) ≡ after_put (image_contents kind w q sym_of bytes) row place (sym_of v)
  changed bytes row place v s e small roomy =
      let f = found bytes row place s e in
      ap (λ t. image_contents kind w q sym_of (put_at w (Some t) v bytes)) f.is ∙ changed_at bytes f.head row place v f.own f.in_range small roomy
