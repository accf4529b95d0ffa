-- A field over a carrier of its own, and the laws that follow from its laws.
use mathlib.Core.Path.{◌≡◌, sym, ap, ap₂, ◌∙◌}

pub record Field : Type 1 where
  pub El : Type 0
  pub nought : El
  pub unit : El
  pub add : El → El → El
  pub neg : El → El
  pub mul : El → El → El
  pub inv : El → El
  pub add_comm : (a b : El) → add a b ≡ add b a
  pub add_assoc : (a b c : El) → add (add a b) c ≡ add a (add b c)
  pub add_nought : (a : El) → add a nought ≡ a
  pub add_neg : (a : El) → add a (neg a) ≡ nought
  pub mul_comm : (a b : El) → mul a b ≡ mul b a
  pub mul_assoc : (a b c : El) → mul (mul a b) c ≡ mul a (mul b c)
  pub mul_unit : (a : El) → mul a unit ≡ a
  pub mul_add : (a b c : El) → mul a (add b c) ≡ add (mul a b) (mul a c)
  pub mul_inv : (a : El) → ¬ (a ≡ nought) → mul a (inv a) ≡ unit
  pub unit_some : ¬ (unit ≡ nought)

module _ (K : Field) where
  open K use {El, nought as 𝟘, unit as 𝟙, add as ◌⊕◌, mul as ◌⊗◌, neg as ⊖◌, inv, add_comm, add_assoc, add_nought, add_neg, mul_comm, mul_assoc, mul_unit, mul_add, mul_inv}

  infixl 60 ◌⊕◌
  infixl 70 ◌⊗◌
  infix 80 ⊖◌
  pub nought_add : (a : El) → 𝟘 ⊕ a ≡ a
  nought_add a = add_comm 𝟘 a ∙ add_nought a

  pub neg_add_self : (a : El) → ⊖ a ⊕ a ≡ 𝟘
  neg_add_self a = add_comm (⊖ a) a ∙ add_neg a

  pub unit_mul : (a : El) → 𝟙 ⊗ a ≡ a
  unit_mul a = mul_comm 𝟙 a ∙ mul_unit a

  pub add_mul : (a b c : El) → (a ⊕ b) ⊗ c ≡ a ⊗ c ⊕ b ⊗ c
  add_mul a b c = mul_comm (a ⊕ b) c ∙ mul_add c a b ∙ ap₂ ◌⊕◌ (mul_comm c a) (mul_comm c b)

  pub add_left_comm : (a b c : El) → a ⊕ (b ⊕ c) ≡ b ⊕ (a ⊕ c)
  add_left_comm a b c = sym (add_assoc a b c) ∙ ap (λ x. x ⊕ c) (add_comm a b) ∙ add_assoc b a c

  pub mul_left_comm : (a b c : El) → a ⊗ (b ⊗ c) ≡ b ⊗ (a ⊗ c)
  mul_left_comm a b c = sym (mul_assoc a b c) ∙ ap (λ x. x ⊗ c) (mul_comm a b) ∙ mul_assoc b a c

  pub neg_add_cancel : (a b : El) → ⊖ a ⊕ (a ⊕ b) ≡ b
  neg_add_cancel a b = sym (add_assoc (⊖ a) a b) ∙ ap (λ x. x ⊕ b) (neg_add_self a) ∙ nought_add b

  pub add_cancel : (a b c : El) → a ⊕ b ≡ a ⊕ c → b ≡ c
  add_cancel a b c h = sym (neg_add_cancel a b) ∙ ap (λ x. ⊖ a ⊕ x) h ∙ neg_add_cancel a c

  -- an element is the opposite of what it makes nought with
  pub neg_unique : (a b : El) → a ⊕ b ≡ 𝟘 → ⊖ a ≡ b
  neg_unique a b h = add_cancel a (⊖ a) b (add_neg a ∙ sym h)

  pub neg_neg : (a : El) → ⊖ (⊖ a) ≡ a
  neg_neg a = neg_unique (⊖ a) a (neg_add_self a)

  pub neg_nought : ⊖ 𝟘 ≡ 𝟘
  neg_nought = neg_unique 𝟘 𝟘 (add_nought 𝟘)

  pub neg_add : (a b : El) → ⊖ (a ⊕ b) ≡ ⊖ a ⊕ ⊖ b
  neg_add a b = neg_unique (a ⊕ b) (⊖ a ⊕ ⊖ b) (simp (add_assoc, add_left_comm b (⊖ a) (⊖ b), add_neg, add_nought))

  pub mul_nought : (a : El) → a ⊗ 𝟘 ≡ 𝟘
  mul_nought a = add_cancel (a ⊗ 𝟘) (a ⊗ 𝟘) 𝟘 (sym (mul_add a 𝟘 𝟘) ∙ ap (λ x. a ⊗ x) (add_nought 𝟘) ∙ sym (add_nought (a ⊗ 𝟘)))

  pub nought_mul : (a : El) → 𝟘 ⊗ a ≡ 𝟘
  nought_mul a = mul_comm 𝟘 a ∙ mul_nought a

  pub mul_neg : (a b : El) → a ⊗ ⊖ b ≡ ⊖ (a ⊗ b)
  mul_neg a b = sym (neg_unique (a ⊗ b) (a ⊗ ⊖ b) (sym (mul_add a b (⊖ b)) ∙ ap (λ x. a ⊗ x) (add_neg b) ∙ mul_nought a))

  pub neg_mul : (a b : El) → ⊖ a ⊗ b ≡ ⊖ (a ⊗ b)
  neg_mul a b = mul_comm (⊖ a) b ∙ mul_neg b a ∙ ap ⊖◌ (mul_comm b a)

  -- sums and products with nought among their parts
  pub noughts_add : {a b : El} → a ≡ 𝟘 → b ≡ 𝟘 → a ⊕ b ≡ 𝟘
  noughts_add h k = ap₂ ◌⊕◌ h k ∙ add_nought 𝟘

  pub nought_left : {a : El} (b : El) → a ≡ 𝟘 → a ⊗ b ≡ 𝟘
  nought_left b h = ap (λ x. x ⊗ b) h ∙ nought_mul b

  pub nought_right : (a : El) {b : El} → b ≡ 𝟘 → a ⊗ b ≡ 𝟘
  nought_right a h = ap (λ x. a ⊗ x) h ∙ mul_nought a

  pub mul_inv_cancel : (a b : El) → ¬ (b ≡ 𝟘) → a ⊗ b ⊗ inv b ≡ a
  mul_inv_cancel a b d = mul_assoc a b (inv b) ∙ ap (λ x. a ⊗ x) (mul_inv b d) ∙ mul_unit a

  -- a product is nought and its first factor is not
  pub factor_nought : (a b : El) → ¬ (a ≡ 𝟘) → a ⊗ b ≡ 𝟘 → b ≡ 𝟘
  factor_nought a b d z =
      sym (unit_mul b) ∙ ap (λ x. x ⊗ b) (sym (mul_inv a d) ∙ mul_comm a (inv a)) ∙ mul_assoc (inv a) a b ∙ nought_right (inv a) z

  pub mul_some : (a b : El) → ¬ (a ≡ 𝟘) → ¬ (b ≡ 𝟘) → ¬ (a ⊗ b ≡ 𝟘)
  mul_some a b ha hb z = hb (factor_nought a b ha z)

  pub equal_of_difference : (a b : El) → a ⊕ ⊖ b ≡ 𝟘 → a ≡ b
  equal_of_difference a b h = sym (neg_neg a) ∙ ap ⊖◌ (neg_unique a (⊖ b) h) ∙ neg_neg b
