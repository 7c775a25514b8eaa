-- The check accepts exactly the bytes that are laid out as an image.
use Rattle.std.proofs.Common.{◌≡◌, ℕ, ◌+◌, ◌*◌, ◌<◌, ◌≤◌, cond, eqb, ltb, List, [], ◌∷◌, ◌++◌, length, get_or, take, drop, Some, None, Ok, Err, Option, Result, sym, refl, ap, ◌∙◌, subst, ap₂, mul-one, mul-add, arith, lit<, length-append, length-drop, length-take, le-ltb, eq-eqb, eqb-true}
use Rattle.std.proofs.lemmas.List.{take-append-drop}
use Rattle.algebra.proofs.Cases.{by_cases}
use Rattle.images.specs.declared.FieldKind.{FieldKind}
use Rattle.images.specs.declared.FieldKind.TheVariants.{Byte, Counter}
use Rattle.images.specs.declared.Head.{Head}
use Rattle.images.specs.declared.ImageRefusal.{ImageRefusal}
use Rattle.images.specs.declared.ImageRefusal.TheVariants.{TooShort, WrongLength}
use Rattle.images.specs.Image.{field_number, code_width, field_numbered, row_count, place_count, image_length, head_of, long_enough, of_field, checked}
use Rattle.images.specs.Layout.{Image, ExactlyTheImages}

numbered : (f : FieldKind) → field_numbered (field_number f) ≡ Some f
numbered Byte = refl
numbered Counter = refl

known : (v : ℕ) (f : FieldKind) → field_numbered v ≡ Some f → field_number f ≡ v
known v f e = by_cases (eqb v 1)
    (λ t. let k : Some Byte ≡ Some f = rw t at e in let b : f ≡ Byte = cc in ap field_number b ∙ sym (eqb-true v 1 t))
    (λ n. by_cases (eqb v 2)
    (λ t. let k : Some Counter ≡ Some f = rw (n, t) at e in let b : f ≡ Counter = cc in ap field_number b ∙ sym (eqb-true v 2 t))
    (λ m. let k : ◌≡◌ {A = Option FieldKind} None (Some f) = rw (n, m) at e in let z : ◌≡◌ {A = ℕ} 0 1 = cc in absurd (omega arith)))

-- at six bytes and more, the field decides
enough : (bytes : List ℕ) → 6 ≤ length bytes → checked bytes ≡ of_field bytes (field_numbered (get_or bytes 0 0))
enough bytes l = rw (le-ltb (length bytes) 6 l)

-- what follows the head splits into the marks and the codes
parts : (s w : ℕ) (rest : List ℕ) → length rest ≡ s * (1 + w) → (length (take s rest) ≡ s) × (length (drop s rest) ≡ s * w)
parts s w rest e =
    let d = mul-add s 1 w in
    let o = mul-one s in
    (simp length-take (omega arith), simp length-drop (omega arith))

-- with the head in hand, the length decides
of_length : (bytes : List ℕ) (f : FieldKind) (h : Head) → 6 ≤ length bytes → field_numbered (get_or bytes 0 0) ≡ Some f → h ≡ head_of f bytes → length bytes ≡ image_length h → checked bytes ≡ Ok h
of_length bytes f h long kind is e =
    enough bytes long ∙ ap (of_field bytes) kind ∙ ap (long_enough bytes) (sym is) ∙ rw (eq-eqb (length bytes) (image_length h) e)

accepted : (h : Head) (b : List ℕ) → Image h b → checked b ≡ Ok h
accepted h b i =
    let bytes : List ℕ = field_number h.field ∷ h.data_rows ∷ h.parity_rows ∷ h.card_length ∷ i.high ∷ i.low ∷ (i.marks ++ i.codes) in
    let s : ℕ = row_count h * place_count h in
    let l = length-append i.marks i.codes in
    let d = mul-add s 1 (code_width h.field) in
    let o = mul-one s in
    ap checked i.laid_out ∙ of_length bytes h.field h (omega arith) (numbered h.field) (ap (λ (n : ℕ). record { field = h.field; data_rows = h.data_rows; parity_rows = h.parity_rows; card_length = h.card_length; block_length = n }) i.block_length) (omega (arith, i.one_mark_each, i.one_code_each))

split : (b₀ b₁ b₂ b₃ b₄ b₅ : ℕ) (rest : List ℕ) (h : Head) (o : Option FieldKind) → field_numbered b₀ ≡ o → of_field (b₀ ∷ b₁ ∷ b₂ ∷ b₃ ∷ b₄ ∷ b₅ ∷ rest) o ≡ Ok h → Image h (b₀ ∷ b₁ ∷ b₂ ∷ b₃ ∷ b₄ ∷ b₅ ∷ rest)
split b₀ b₁ b₂ b₃ b₄ b₅ rest h None k e = let z : ◌≡◌ {A = ℕ} 0 1 = cc in absurd (omega arith)
split b₀ b₁ b₂ b₃ b₄ b₅ rest h (Some f) k e =
    let bytes : List ℕ = b₀ ∷ b₁ ∷ b₂ ∷ b₃ ∷ b₄ ∷ b₅ ∷ rest in
    let r : Head = head_of f bytes in
    let s : ℕ = row_count r * place_count r in
    by_cases (eqb (length bytes) (image_length r))
    (λ t.
    let a : ◌≡◌ {A = Result Head ImageRefusal} (Ok r) (Ok h) = rw t at e in
    let is : r ≡ h = cc in
    let len : length rest ≡ s * (1 + code_width f) = omega (arith, eqb-true (length bytes) (image_length r) t) in
    let p = parts s (code_width f) rest len in
    subst (λ (v : Head). Image v bytes) is (record {
      high = b₄;
      low = b₅;
      marks = take s rest;
      codes = drop s rest;
      block_length = refl;
      laid_out = ap₂ (λ (v : ℕ) (l : List ℕ). v ∷ b₁ ∷ b₂ ∷ b₃ ∷ b₄ ∷ b₅ ∷ l) (sym (known b₀ f k)) (sym (take-append-drop s rest));
      one_mark_each = p.0;
      one_code_each = p.1;
    }))
    (λ t.
    let a : ◌≡◌ {A = Result Head ImageRefusal} (Err WrongLength) (Ok h) = rw t at e in
    let z : ◌≡◌ {A = ℕ} 0 1 = cc in
    absurd (omega arith))

image : (b : List ℕ) (h : Head) → checked b ≡ Ok h → Image h b
image [] h e = let z : ◌≡◌ {A = ℕ} 0 1 = cc in absurd (omega arith)
image (b₀ ∷ []) h e = let z : ◌≡◌ {A = ℕ} 0 1 = cc in absurd (omega arith)
image (b₀ ∷ b₁ ∷ []) h e = let z : ◌≡◌ {A = ℕ} 0 1 = cc in absurd (omega arith)
image (b₀ ∷ b₁ ∷ b₂ ∷ []) h e = let z : ◌≡◌ {A = ℕ} 0 1 = cc in absurd (omega arith)
image (b₀ ∷ b₁ ∷ b₂ ∷ b₃ ∷ []) h e = let z : ◌≡◌ {A = ℕ} 0 1 = cc in absurd (omega arith)
image (b₀ ∷ b₁ ∷ b₂ ∷ b₃ ∷ b₄ ∷ []) h e = let z : ◌≡◌ {A = ℕ} 0 1 = cc in absurd (omega arith)
image (b₀ ∷ b₁ ∷ b₂ ∷ b₃ ∷ b₄ ∷ b₅ ∷ rest) h e =
    split b₀ b₁ b₂ b₃ b₄ b₅ rest h (field_numbered b₀) refl (sym (enough (b₀ ∷ b₁ ∷ b₂ ∷ b₃ ∷ b₄ ∷ b₅ ∷ rest) (omega arith)) ∙ e)

pub exactly : (bytes : List ℕ) → ExactlyTheImages bytes (checked bytes)
exactly bytes h = (image bytes h, accepted h bytes)

-- an accepted image has the length of its head
pub accepted_length : (bytes : List ℕ) (h : Head) → checked bytes ≡ Ok h → length bytes ≡ image_length h
accepted_length bytes h e =
    let i = image bytes h e in
    let s : ℕ = row_count h * place_count h in
    let l = length-append i.marks i.codes in
    let d = mul-add s 1 (code_width h.field) in
    let o = mul-one s in
    ap length i.laid_out ∙ omega (arith, i.one_mark_each, i.one_code_each)

-- the check looks at the length and the first six bytes
pub same_head : (xs ys : List ℕ) → length xs ≡ length ys → ((j : ℕ) → j < 6 → get_or xs j 0 ≡ get_or ys j 0) → checked xs ≡ checked ys
same_head xs ys l e =
    rw (l, e 0 (lit< tt)) (ap (cond (ltb (length ys) 6) (Err TooShort)) (of_fields (field_numbered (get_or ys 0 0))))
  where
    of_fields : (o : Option FieldKind) → of_field xs o ≡ of_field ys o
    of_fields None = refl
    of_fields (Some f) = rw (l, e 1 (lit< tt), e 2 (lit< tt), e 3 (lit< tt), e 4 (lit< tt), e 5 (lit< tt))
