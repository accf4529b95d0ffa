-- Polynomials by their coefficients, the constant first: their values, their roots, and their windows on a row of elements.
use mathlib.Core.Path.{◌≡◌, refl, sym, ap, ◌∙◌}
use mathlib.Core.List.{List, [], ◌∷◌}
use Prim.Native.Nat.{ℕ, zero, suc, ◌<◌, ◌≤◌, ◌+◌}
use native.Mathlib.Omega.{arith}
use lib.ListN.{length}
use Rattle.algebra.proofs.Field.{Field, nought_add, noughts_add, nought_right, factor_nought, equal_of_difference}
use Rattle.algebra.proofs.Ring.{ring, nought, unit, minus, ◌⊞◌, ◌⊟◌, ◌⊠◌}

module _ (K : Field) where
  open K use {El, nought as 𝟘, unit as 𝟙, add as ◌⊕◌, mul as ◌⊗◌, neg as ⊖◌, unit_some}

  infixl 60 ◌⊕◌
  infixl 70 ◌⊗◌
  infix 80 ⊖◌
  -- the value at x
  abbrev pub eval : List El → El → El
  eval [] x = 𝟘
  eval (c ∷ p) x = c ⊕ x ⊗ eval p x

  -- x - a, the polynomial whose one root is a
  abbrev pub root_at : El → List El
  root_at a = ⊖ a ∷ 𝟙 ∷ []

  pub eval_root_at : (a x : El) → eval (root_at a) x ≡ x ⊕ ⊖ a
  eval_root_at = ring K 2 (λ a x. (minus a ⊞ x ⊠ (unit ⊞ x ⊠ nought), x ⊟ a)) refl

  -- the coefficients against s j, s (j + 1), ..
  abbrev pub window : List El → (ℕ → El) → ℕ → El
  window [] s j = 𝟘
  window (c ∷ p) s j = c ⊗ s j ⊕ window p s (suc j)

  pub window_nought : (p : List El) (s : ℕ → El) (j : ℕ) → ((i : ℕ) → j ≤ i → i < j + length p → s i ≡ 𝟘) → window p s j ≡ 𝟘
  window_nought [] s j h = refl
  window_nought (c ∷ p) s j h =
      noughts_add K (nought_right K c (h j (omega arith) (omega arith))) (window_nought p s (suc j) (λ i l u. h i (omega arith) (omega arith)))

  -- the last coefficient is the unit
  abbrev pub Monic : List El → Type 0
  Monic [] = ⊥
  Monic (c ∷ []) = c ≡ 𝟙
  Monic (c ∷ d ∷ p) = Monic (d ∷ p)

  -- the quotient by x - a
  abbrev pub quotient : El → List El → List El
  quotient a [] = []
  quotient a (c ∷ []) = []
  quotient a (c ∷ d ∷ p) = eval (d ∷ p) a ∷ quotient a (d ∷ p)

  pub eval_quotient : (a : El) (p : List El) (x : El) → eval p x ≡ eval p a ⊕ (x ⊕ ⊖ a) ⊗ eval (quotient a p) x
  eval_quotient a [] x = ring K 2 (λ x a. (nought, nought ⊞ (x ⊟ a) ⊠ nought)) refl x a
  eval_quotient a (c ∷ []) x = ring K 3 (λ c x a. (c ⊞ x ⊠ nought, c ⊞ a ⊠ nought ⊞ (x ⊟ a) ⊠ nought)) refl c x a
  eval_quotient a (c ∷ d ∷ p) x =
      ap (λ z. c ⊕ x ⊗ z) (eval_quotient a (d ∷ p) x)
      ∙ ring K 5 (λ c x a v q. (c ⊞ x ⊠ (v ⊞ (x ⊟ a) ⊠ q), c ⊞ a ⊠ v ⊞ (x ⊟ a) ⊠ (v ⊞ x ⊠ q))) refl c x a (eval (d ∷ p) a) (eval (quotient a (d ∷ p)) x)

  pub quotient_length : (a c : El) (p : List El) → length (quotient a (c ∷ p)) ≡ length p
  quotient_length a c [] = refl
  quotient_length a c (d ∷ p) = ap suc (quotient_length a d p)

  pub quotient_monic : (a c d : El) (p : List El) → Monic (d ∷ p) → Monic (quotient a (c ∷ d ∷ p))
  quotient_monic a c d [] m = ring K 2 (λ d a. (d ⊞ a ⊠ nought, d)) refl d a ∙ m
  quotient_monic a c d (d' ∷ p) m = quotient_monic a d d' p m

  -- another root of p is a root of the quotient
  pub quotient_root : (a : El) (p : List El) → eval p a ≡ 𝟘 → (x : El) → ¬ (x ≡ a) → eval p x ≡ 𝟘 → eval (quotient a p) x ≡ 𝟘
  quotient_root a p root x apart root' =
      factor_nought K (x ⊕ ⊖ a) (eval (quotient a p) x) (λ z. apart (equal_of_difference K x a z))
      (sym (nought_add K _) ∙ ap (λ z. z ⊕ (x ⊕ ⊖ a) ⊗ eval (quotient a p) x) (sym root) ∙ sym (eval_quotient a p x) ∙ root')

  -- a monic polynomial has fewer roots than coefficients
  pub few_roots : (m : ℕ) (x : ℕ → El) → ((i j : ℕ) → i < j → j < m → ¬ (x i ≡ x j))
      → (p : List El) → Monic p → ((i : ℕ) → i < m → eval p (x i) ≡ 𝟘) → m < length p
  few_roots m x apart [] monic root = absurd monic
  few_roots zero x apart (c ∷ p) monic root = omega arith
  few_roots (suc m) x apart (c ∷ []) monic root =
      absurd (unit_some (sym monic ∙ ring K 2 (λ c a. (c, c ⊞ a ⊠ nought)) refl c (x m) ∙ root m (omega arith)))
  few_roots (suc m) x apart (c ∷ d ∷ p) monic root =
      let root_left = λ (i : ℕ) (b : i < m). quotient_root (x m) (c ∷ d ∷ p) (root m (omega arith)) (x i) (apart i m b (omega arith)) (root i (omega arith)) in
      let fewer = few_roots m x (λ i j a b. apart i j a (omega arith)) (quotient (x m) (c ∷ d ∷ p)) (quotient_monic (x m) c d p monic) root_left in
      omega (arith, fewer, quotient_length (x m) c (d ∷ p))
