-- A normal form of expressions in sums, opposites and products: an identity whose sides share it holds in every field.
use mathlib.Core.Path.{◌≡◌, refl, sym, ap, ap₂, ◌∙◌}
use mathlib.Core.Bool.{Bool, true, false, cond, not, ◌&&◌, beq}
use mathlib.Core.List.{List, [], ◌∷◌}
use Prim.Native.Nat.{ℕ, zero, suc}
use lib.Dec.{leb, eqb}
use borrow.Author.Tests.{eqb-true}
use Rattle.algebra.proofs.Field.{Field, nought_add, neg_add_self, unit_mul, add_mul, add_left_comm, mul_left_comm, neg_neg, neg_nought, neg_add, mul_nought, nought_mul, mul_neg, neg_mul}

infixl 60 ◌⊞◌
infixl 60 ◌⊟◌
infixl 70 ◌⊠◌
-- an expression over numbered unknowns
pub data Expr : Type 0 where
  unknown : ℕ → Expr
  nought unit : Expr
  ◌⊞◌ ◌⊠◌ : Expr → Expr → Expr
  minus : Expr → Expr

abbrev pub ◌⊟◌ : Expr → Expr → Expr
a ⊟ b = a ⊞ minus b

-- a product of unknowns, its factors in order, added if the sign is true and taken off if not
pub data Term : Type 0 where
  term : Bool → List ℕ → Term

-- a factor put in its place
abbrev factor_in : ℕ → List ℕ → List ℕ
factor_in x [] = x ∷ []
factor_in x (y ∷ ys) = cond (leb x y) (x ∷ y ∷ ys) (y ∷ factor_in x ys)

abbrev factors : List ℕ → List ℕ → List ℕ
factors [] m = m
factors (x ∷ l) m = factor_in x (factors l m)

abbrev alike : List ℕ → List ℕ → Bool
alike [] [] = true
alike [] (y ∷ ys) = false
alike (x ∷ xs) [] = false
alike (x ∷ xs) (y ∷ ys) = eqb x y && alike xs ys

abbrev before : List ℕ → List ℕ → Bool
before [] m = true
before (x ∷ xs) [] = false
before (x ∷ xs) (y ∷ ys) = cond (eqb x y) (before xs ys) (leb x y)

-- a term put in its place: a normal form is a list of terms in order, with no two that cancel
abbrev term_in : Term → List Term → List Term
term_in t [] = t ∷ []
term_in (term s m) (term s' m' ∷ ts) =
    cond (alike m m')
    (cond (beq s s') (term s m ∷ term s' m' ∷ ts) ts)
    (cond (before m m') (term s m ∷ term s' m' ∷ ts) (term s' m' ∷ term_in (term s m) ts))

abbrev added : List Term → List Term → List Term
added [] q = q
added (t ∷ p) q = term_in t (added p q)

abbrev term_times : Term → Term → Term
term_times (term s m) (term s' m') = term (beq s s') (factors m m')

abbrev scaled : Term → List Term → List Term
scaled t [] = []
scaled t (u ∷ q) = term_in (term_times t u) (scaled t q)

abbrev multiplied : List Term → List Term → List Term
multiplied [] q = []
multiplied (t ∷ p) q = added (scaled t q) (multiplied p q)

abbrev opposite : List Term → List Term
opposite [] = []
opposite (term s m ∷ p) = term (not s) m ∷ opposite p

abbrev pub normal : Expr → List Term
normal (unknown i) = term true (i ∷ []) ∷ []
normal nought = []
normal unit = term true [] ∷ []
normal (a ⊞ b) = added (normal a) (normal b)
normal (a ⊠ b) = multiplied (normal a) (normal b)
normal (minus a) = opposite (normal a)

-- two sides over n unknowns, as a function of these
abbrev pub Sides : ℕ → Type 0
Sides zero = Expr × Expr
Sides (suc n) = Expr → Sides n

abbrev pub numbered : (n : ℕ) → Sides n → Expr × Expr
numbered zero e = e
numbered (suc n) e = numbered n (e (unknown n))

module _ (K : Field) where
  open K use {El, nought as 𝟘, unit as 𝟙, add as ◌⊕◌, mul as ◌⊗◌, neg as ⊖◌, add_assoc, add_nought, add_neg, mul_assoc, mul_unit, mul_add}

  infixl 60 ◌⊕◌
  infixl 70 ◌⊗◌
  infix 80 ⊖◌
  abbrev pub look : List El → ℕ → El
  look [] i = 𝟘
  look (x ∷ ρ) zero = x
  look (x ∷ ρ) (suc i) = look ρ i

  -- what an expression stands for, where ρ has the unknowns
  abbrev pub mean : List El → Expr → El
  mean ρ (unknown i) = look ρ i
  mean ρ nought = 𝟘
  mean ρ unit = 𝟙
  mean ρ (a ⊞ b) = mean ρ a ⊕ mean ρ b
  mean ρ (a ⊠ b) = mean ρ a ⊗ mean ρ b
  mean ρ (minus a) = ⊖ (mean ρ a)

  -- what a normal form stands for
  abbrev product : List El → List ℕ → El
  product ρ [] = 𝟙
  product ρ (i ∷ m) = look ρ i ⊗ product ρ m

  abbrev signed : Bool → El → El
  signed true x = x
  signed false x = ⊖ x

  abbrev term_mean : List El → Term → El
  term_mean ρ (term s m) = signed s (product ρ m)

  abbrev normal_mean : List El → List Term → El
  normal_mean ρ [] = 𝟘
  normal_mean ρ (t ∷ p) = term_mean ρ t ⊕ normal_mean ρ p

  either : {A : Type 0} (f : A → El) (z : El) (b : Bool) (p q : A) → (b ≡ true → f p ≡ z) → f q ≡ z → f (cond b p q) ≡ z
  either f z true p q h k = h refl
  either f z false p q h k = k

  factor_in_mean : (ρ : List El) (x : ℕ) (m : List ℕ) → product ρ (factor_in x m) ≡ look ρ x ⊗ product ρ m
  factor_in_mean ρ x [] = refl
  factor_in_mean ρ x (y ∷ ys) =
      either (product ρ) _ (leb x y) (x ∷ y ∷ ys) (y ∷ factor_in x ys) (λ _. refl)
      (ap (λ z. look ρ y ⊗ z) (factor_in_mean ρ x ys) ∙ mul_left_comm K (look ρ y) (look ρ x) (product ρ ys))

  factors_mean : (ρ : List El) (l m : List ℕ) → product ρ (factors l m) ≡ product ρ l ⊗ product ρ m
  factors_mean ρ [] m = sym (unit_mul K (product ρ m))
  factors_mean ρ (x ∷ l) m =
      factor_in_mean ρ x (factors l m) ∙ ap (λ z. look ρ x ⊗ z) (factors_mean ρ l m) ∙ sym (mul_assoc (look ρ x) (product ρ l) (product ρ m))

  alike_equal : (l m : List ℕ) → alike l m ≡ true → l ≡ m
  alike_equal [] [] h = refl
  alike_equal [] (y ∷ ys) h = cc
  alike_equal (x ∷ xs) [] h = cc
  alike_equal (x ∷ xs) (y ∷ ys) h =
      ap₂ ◌∷◌ (eqb-true x y (first (eqb x y) (alike xs ys) h)) (alike_equal xs ys (second (eqb x y) (alike xs ys) h))
    where
      first : (a b : Bool) → (a && b) ≡ true → a ≡ true
      first true b h = refl
      first false b h = h

      second : (a b : Bool) → (a && b) ≡ true → b ≡ true
      second true b h = h
      second false b h = cc

  -- two terms with the same factors: both stay, or they cancel
  beside_mean : (s s' : Bool) (x : El) (p q : List Term) (ρ : List El) → normal_mean ρ p ≡ signed s x ⊕ (signed s' x ⊕ normal_mean ρ q)
      → normal_mean ρ (cond (beq s s') p q) ≡ signed s x ⊕ (signed s' x ⊕ normal_mean ρ q)
  beside_mean true true x p q ρ h = h
  beside_mean false false x p q ρ h = h
  beside_mean true false x p q ρ h = sym (nought_add K (normal_mean ρ q)) ∙ ap (λ y. y ⊕ normal_mean ρ q) (sym (add_neg x)) ∙ add_assoc x (⊖ x) (normal_mean ρ q)
  beside_mean false true x p q ρ h = sym (nought_add K (normal_mean ρ q)) ∙ ap (λ y. y ⊕ normal_mean ρ q) (sym (neg_add_self K x)) ∙ add_assoc (⊖ x) x (normal_mean ρ q)

  term_in_mean : (ρ : List El) (t : Term) (p : List Term) → normal_mean ρ (term_in t p) ≡ term_mean ρ t ⊕ normal_mean ρ p
  term_in_mean ρ t [] = refl
  term_in_mean ρ (term s m) (term s' m' ∷ ts) =
      either (normal_mean ρ) _ (alike m m') _ _
      (λ h. rw (← (alike_equal m m' h)) (beside_mean s s' (product ρ m) (term s m ∷ term s' m ∷ ts) ts ρ refl))
      (either (normal_mean ρ) _ (before m m') _ _ (λ _. refl) (ap (λ z. signed s' (product ρ m') ⊕ z) (term_in_mean ρ (term s m) ts) ∙ add_left_comm K _ _ _))

  added_mean : (ρ : List El) (p q : List Term) → normal_mean ρ (added p q) ≡ normal_mean ρ p ⊕ normal_mean ρ q
  added_mean ρ [] q = sym (nought_add K (normal_mean ρ q))
  added_mean ρ (t ∷ p) q =
      term_in_mean ρ t (added p q) ∙ ap (λ z. term_mean ρ t ⊕ z) (added_mean ρ p q) ∙ sym (add_assoc (term_mean ρ t) (normal_mean ρ p) (normal_mean ρ q))

  signs_mean : (s s' : Bool) (x y : El) → signed (beq s s') (x ⊗ y) ≡ signed s x ⊗ signed s' y
  signs_mean true true x y = refl
  signs_mean true false x y = sym (mul_neg K x y)
  signs_mean false true x y = sym (neg_mul K x y)
  signs_mean false false x y = sym (mul_neg K (⊖ x) y ∙ ap ⊖◌ (neg_mul K x y) ∙ neg_neg K (x ⊗ y))

  term_times_mean : (ρ : List El) (t u : Term) → term_mean ρ (term_times t u) ≡ term_mean ρ t ⊗ term_mean ρ u
  term_times_mean ρ (term s m) (term s' m') = ap (signed (beq s s')) (factors_mean ρ m m') ∙ signs_mean s s' (product ρ m) (product ρ m')

  scaled_mean : (ρ : List El) (t : Term) (q : List Term) → normal_mean ρ (scaled t q) ≡ term_mean ρ t ⊗ normal_mean ρ q
  scaled_mean ρ t [] = sym (mul_nought K (term_mean ρ t))
  scaled_mean ρ t (u ∷ q) =
      term_in_mean ρ (term_times t u) (scaled t q) ∙ ap₂ ◌⊕◌ (term_times_mean ρ t u) (scaled_mean ρ t q) ∙ sym (mul_add (term_mean ρ t) (term_mean ρ u) (normal_mean ρ q))

  multiplied_mean : (ρ : List El) (p q : List Term) → normal_mean ρ (multiplied p q) ≡ normal_mean ρ p ⊗ normal_mean ρ q
  multiplied_mean ρ [] q = sym (nought_mul K (normal_mean ρ q))
  multiplied_mean ρ (t ∷ p) q =
      added_mean ρ (scaled t q) (multiplied p q) ∙ ap₂ ◌⊕◌ (scaled_mean ρ t q) (multiplied_mean ρ p q) ∙ sym (add_mul K (term_mean ρ t) (normal_mean ρ p) (normal_mean ρ q))

  opposite_mean : (ρ : List El) (p : List Term) → normal_mean ρ (opposite p) ≡ ⊖ (normal_mean ρ p)
  opposite_mean ρ [] = sym (neg_nought K)
  opposite_mean ρ (term true m ∷ p) = ap (λ z. ⊖ (product ρ m) ⊕ z) (opposite_mean ρ p) ∙ sym (neg_add K (product ρ m) (normal_mean ρ p))
  opposite_mean ρ (term false m ∷ p) = ap₂ ◌⊕◌ (sym (neg_neg K (product ρ m))) (opposite_mean ρ p) ∙ sym (neg_add K (⊖ (product ρ m)) (normal_mean ρ p))

  -- an expression and its normal form stand for the same element
  normal_is : (ρ : List El) (e : Expr) → normal_mean ρ (normal e) ≡ mean ρ e
  normal_is ρ (unknown i) = add_nought (look ρ i ⊗ 𝟙) ∙ mul_unit (look ρ i)
  normal_is ρ nought = refl
  normal_is ρ unit = add_nought 𝟙
  normal_is ρ (a ⊞ b) = added_mean ρ (normal a) (normal b) ∙ ap₂ ◌⊕◌ (normal_is ρ a) (normal_is ρ b)
  normal_is ρ (a ⊠ b) = multiplied_mean ρ (normal a) (normal b) ∙ ap₂ ◌⊗◌ (normal_is ρ a) (normal_is ρ b)
  normal_is ρ (minus a) = opposite_mean ρ (normal a) ∙ ap ⊖◌ (normal_is ρ a)

  -- the two sides are equal at all elements
  abbrev pub Everywhere : ℕ → List El → Expr × Expr → Type 0
  Everywhere zero ρ e = mean ρ e.0 ≡ mean ρ e.1
  Everywhere (suc n) ρ e = (x : El) → Everywhere n (x ∷ ρ) e

  everywhere : (n : ℕ) (ρ : List El) (e : Expr × Expr) → normal e.0 ≡ normal e.1 → Everywhere n ρ e
  everywhere zero ρ e h = sym (normal_is ρ e.0) ∙ ap (normal_mean ρ) h ∙ normal_is ρ e.1
  everywhere (suc n) ρ e h = λ x. everywhere n (x ∷ ρ) e h

  -- an identity in n unknowns, as `ring K 2 (λ a b. (a ⊞ b, b ⊞ a)) refl x y : x ⊕ y ≡ y ⊕ x`
  pub ring : (n : ℕ) (e : Sides n) → normal (numbered n e).0 ≡ normal (numbered n e).1 → Everywhere n [] (numbered n e)
  ring n e h = everywhere n [] (numbered n e) h
