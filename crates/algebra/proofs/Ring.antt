-- What follows from the laws of a field alone.
use Rattle.std.proofs.Common.{◌≡◌, ◌≢◌, sym, ap, ◌∙◌}
use Rattle.algebra.specs.Algebra.{Field}

module _ {A : Type 0} (F : Field A) where
  infixl 60 ◌⊕◌
  infixl 70 ◌⊙◌
  open F use {zer as 𝟘, one as 𝟙, add as ◌⊕◌, mul as ◌⊙◌, neg, inv}

  pub add_assoc : (x y z : A) → x ⊕ y ⊕ z ≡ x ⊕ (y ⊕ z)
  add_assoc = F.add_assoc

  pub add_comm : (x y : A) → x ⊕ y ≡ y ⊕ x
  add_comm = F.add_comm

  pub add_left_comm : (x y z : A) → x ⊕ (y ⊕ z) ≡ y ⊕ (x ⊕ z)
  add_left_comm x y z = sym (add_assoc x y z) ∙ rw (add_comm x y) (add_assoc y x z)

  pub add_right_comm : (x y z : A) → x ⊕ y ⊕ z ≡ x ⊕ z ⊕ y
  add_right_comm x y z = simp (add_assoc, add_comm)

  pub mul_assoc : (x y z : A) → x ⊙ y ⊙ z ≡ x ⊙ (y ⊙ z)
  mul_assoc = F.mul_assoc

  pub mul_comm : (x y : A) → x ⊙ y ≡ y ⊙ x
  mul_comm = F.mul_comm

  pub mul_left_comm : (x y z : A) → x ⊙ (y ⊙ z) ≡ y ⊙ (x ⊙ z)
  mul_left_comm x y z = sym (mul_assoc x y z) ∙ rw (mul_comm x y) (mul_assoc y x z)

  pub mul-add : (x y z : A) → x ⊙ (y ⊕ z) ≡ x ⊙ y ⊕ x ⊙ z
  mul-add = F.mul-add

  pub add-mul : (x y z : A) → (x ⊕ y) ⊙ z ≡ x ⊙ z ⊕ y ⊙ z
  add-mul x y z = rw (mul_comm (x ⊕ y) z, mul_comm x z, mul_comm y z) (mul-add z x y)

  pub add-zero : (x : A) → x ⊕ 𝟘 ≡ x
  add-zero = F.add-zero

  pub zero-add : (x : A) → 𝟘 ⊕ x ≡ x
  zero-add x = add_comm 𝟘 x ∙ add-zero x

  pub mul-one : (x : A) → x ⊙ 𝟙 ≡ x
  mul-one = F.mul-one

  pub one-mul : (x : A) → 𝟙 ⊙ x ≡ x
  one-mul x = mul_comm 𝟙 x ∙ mul-one x

  pub add-neg : (x : A) → x ⊕ neg x ≡ 𝟘
  add-neg = F.add-neg

  pub sub-add : (x y : A) → x ⊕ neg y ⊕ y ≡ x
  sub-add x y = add_assoc x (neg y) y ∙ rw (add_comm (neg y) y, add-neg y) (add-zero x)

  pub add-sub : (x y : A) → x ⊕ y ⊕ neg y ≡ x
  add-sub x y = add_assoc x y (neg y) ∙ rw (add-neg y) (add-zero x)

  pub add_cancel : (x y z : A) → x ⊕ z ≡ y ⊕ z → x ≡ y
  add_cancel x y z e = sym (add-sub x z) ∙ ap (λ w. w ⊕ neg z) e ∙ add-sub y z

  pub mul-zero : (x : A) → x ⊙ 𝟘 ≡ 𝟘
  mul-zero x = add_cancel _ _ (x ⊙ 𝟘) (sym (mul-add x 𝟘 𝟘) ∙ simp (add-zero, zero-add))

  pub zero-mul : (x : A) → 𝟘 ⊙ x ≡ 𝟘
  zero-mul x = mul_comm 𝟘 x ∙ mul-zero x

  pub sub-zero : (x y : A) → x ⊕ neg y ≡ 𝟘 → x ≡ y
  sub-zero x y e = sym (sub-add x y) ∙ rw e (zero-add y)

  pub sub_chain : (x y z : A) → x ⊕ neg y ⊕ (y ⊕ neg z) ≡ x ⊕ neg z
  sub_chain x y z = sym (add_assoc _ y (neg z)) ∙ rw (sub-add x y)

  pub sub_nonzero : (x y : A) → x ≢ y → x ⊕ neg y ≢ 𝟘
  sub_nonzero x y h e = h (sub-zero x y e)

  pub mul-inv : (x : A) → x ≢ 𝟘 → (y : A) → x ⊙ (inv x ⊙ y) ≡ y
  mul-inv x h y = sym (mul_assoc x (inv x) y) ∙ rw (F.mul-inv x h) (one-mul y)

  pub inv-mul : (x : A) → x ≢ 𝟘 → (y : A) → inv x ⊙ (x ⊙ y) ≡ y
  inv-mul x h y = mul_left_comm (inv x) x y ∙ mul-inv x h y

  pub mul_cancel : (x y z : A) → x ≢ 𝟘 → x ⊙ y ≡ x ⊙ z → y ≡ z
  mul_cancel x y z h e = sym (inv-mul x h y) ∙ rw e (inv-mul x h z)

  pub factor_zero : (x y : A) → x ≢ 𝟘 → x ⊙ y ≡ 𝟘 → y ≡ 𝟘
  factor_zero x y h e = mul_cancel x y 𝟘 h (e ∙ sym (mul-zero x))

  pub inv_nonzero : (x : A) → x ≢ 𝟘 → inv x ≢ 𝟘
  inv_nonzero x h e = F.one_nonzero (sym (F.mul-inv x h) ∙ rw e (mul-zero x))

  -- Both sides of an equation between sums of products, written alike.
  pub ruleset ring = (add-zero, zero-add, mul-one, one-mul, mul-zero, zero-mul, add_assoc, add_comm, add_left_comm, mul_assoc, mul_comm, mul_left_comm, mul-add, add-mul)
