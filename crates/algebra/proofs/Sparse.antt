-- What the first sums of a vector with few entries tell, in a field.
use mathlib.Core.Path.{◌≡◌, refl, sym, ap, ap₂, ◌∙◌}
use mathlib.Core.List.{List}
use mathlib.Core.Logic.{◌≢◌, inl, inr}
use Prim.Native.Nat.{ℕ, zero, suc, ◌≤◌}
use native.Mathlib.Omega.{arith}
use native.Mathlib.Decide.{ℕ_discrete}
use Rattle.algebra.specs.Vectors.{Page, weight}
use Rattle.algebra.proofs.Field.{Field, nought_left, nought_right, factor_nought, equal_of_difference}
use Rattle.algebra.proofs.Ring.{ring, nought, unit, minus, ◌⊞◌, ◌⊟◌, ◌⊠◌}
use Rattle.algebra.proofs.Polynomials.{eval, root_at, eval_root_at, window, window_nought}
use Rattle.algebra.proofs.Sums.{pow, total_linear, total_one, Points, sum, sum_eval}
use Rattle.algebra.proofs.Weights.{without, without_zero, weight_without}

module _ (K : Field) where
  open K use {El, nought as 𝟘, unit as 𝟙, add as ◌⊕◌, mul as ◌⊗◌, neg as ⊖◌, add_neg, mul_comm}

  infixl 60 ◌⊕◌
  infixl 70 ◌⊗◌
  infix 80 ⊖◌
  -- e is nought on each page on which w is 0
  abbrev pub Within : ℕ → (ℕ → ℕ) → (ℕ → El) → Type 0
  Within N w e = (n : ℕ) → Page N n → w n ≡ 0 → e n ≡ 𝟘

  module _ (X : ℕ → El) (N : ℕ) (points : Points K X N) where
    -- a vector with at most J entries whose sums 1 .. J are nought is nought
    abbrev pub Vanishes : ℕ → Type 0
    Vanishes J =
        (w : ℕ → ℕ) → weight N w ≤ J → (e : ℕ → El) → Within N w e → ((j : ℕ) → 1 ≤ j → j ≤ J → sum K X N e j ≡ 𝟘) →
        (n : ℕ) → Page N n → e n ≡ 𝟘

    vanishes_none : Vanishes 0
    vanishes_none w light e within sums n b = elim (ℕ_discrete (w n) 0) [
      | yes z ↦ within n b z
      | no some ↦ absurd (omega (arith, weight_without N w n b some))
    ]

    -- multiplied by X m - X n at each page m, the vector has one entry fewer, and one sum fewer is nought
    vanishes_more : (J : ℕ) → Vanishes J → Vanishes (suc J)
    vanishes_more J fewer w light e within sums n b = elim (ℕ_discrete (w n) 0) [
      | yes z ↦ within n b z
      | no some ↦
          factor_nought K (X n) (e n) (points.some n b)
          (ring K 2 (λ x e. (x ⊠ e, e ⊠ (unit ⊠ x))) refl (X n) (e n)
          ∙ sym (total_one K N (λ m. e m ⊗ pow K (X m) 1) n b (λ m c d. nought_left K (pow K (X m) 1) (others some m c d)))
          ∙ sums 1 (omega arith) (omega arith))
    ]
      where
        multiplied : ¬ (w n ≡ 0) → (m : ℕ) → Page N m → e m ⊗ eval K (root_at K (X n)) (X m) ≡ 𝟘
        multiplied some =
            fewer (without n w) (omega (arith, weight_without N w n b some)) (λ m. e m ⊗ eval K (root_at K (X n)) (X m))
            (λ m c z. elim (without_zero n w m z) [
              | inl is ↦ nought_right K (e m) (eval_root_at K (X n) (X m) ∙ ap (λ k. X k ⊕ ⊖ (X n)) is ∙ add_neg (X n))
              | inr y ↦ nought_left K _ (within m c y)
            ])
            (λ j lo hi. sum_eval K X N e (root_at K (X n)) j ∙ window_nought K (root_at K (X n)) (sum K X N e) j (λ i l u. sums i (omega arith) (omega arith)))

        others : ¬ (w n ≡ 0) → (m : ℕ) → Page N m → m ≢ n → e m ≡ 𝟘
        others some m c d =
            factor_nought K (eval K (root_at K (X n)) (X m)) (e m)
            (λ z. d (points.apart m n c b (equal_of_difference K (X m) (X n) (sym (eval_root_at K (X n) (X m)) ∙ z))))
            (mul_comm _ _ ∙ multiplied some m c)

    pub vanishing : (J : ℕ) → Vanishes J
    vanishing zero = vanishes_none
    vanishing (suc J) = vanishes_more J (vanishing J)

    -- two vectors with at most J entries between them and the same sums 1 .. J are equal
    pub equal_from_sums : (J : ℕ) (w : ℕ → ℕ) → weight N w ≤ J → (d e : ℕ → El) → Within N w d → Within N w e
        → ((j : ℕ) → 1 ≤ j → j ≤ J → sum K X N d j ≡ sum K X N e j) → (n : ℕ) → Page N n → d n ≡ e n
    equal_from_sums J w light d e within_d within-e same n b =
        equal_of_difference K (d n) (e n) (vanishing J w light (λ m. d m ⊕ ⊖ (e m)) within sums n b)
      where
        within : Within N w (λ m. d m ⊕ ⊖ (e m))
        within m c z = ap₂ (λ x y. x ⊕ ⊖ y) (within_d m c z) (within-e m c z) ∙ add_neg 𝟘

        sums : (j : ℕ) → 1 ≤ j → j ≤ J → sum K X N (λ m. d m ⊕ ⊖ (e m)) j ≡ 𝟘
        sums j lo hi =
            sym (total_linear K N (⊖ 𝟙) _ _ _ (λ m. ring K 3 (λ d e x. (minus unit ⊠ (e ⊠ x) ⊞ d ⊠ x, (d ⊟ e) ⊠ x)) refl (d m) (e m) (pow K (X m) j)))
            ∙ ap (λ z. ⊖ 𝟙 ⊗ sum K X N e j ⊕ z) (same j lo hi)
            ∙ ring K 1 (λ s. (minus unit ⊠ s ⊞ s, nought)) refl (sum K X N e j)

    -- a polynomial that is nought against the sums from 1 on, .., from t on has the point of each page with an entry for a root
    pub located : (t : ℕ) (w : ℕ → ℕ) → weight N w ≤ t → (e : ℕ → El) → Within N w e → (p : List El)
        → ((j : ℕ) → 1 ≤ j → j ≤ t → window K p (sum K X N e) j ≡ 𝟘) → (n : ℕ) → Page N n → ¬ (e n ≡ 𝟘) → eval K p (X n) ≡ 𝟘
    located t w light e within p clears n b some =
        factor_nought K (e n) (eval K p (X n)) some
        (vanishing t w light (λ m. e m ⊗ eval K p (X m)) (λ m c z. nought_left K _ (within m c z)) (λ j lo hi. sum_eval K X N e p j ∙ clears j lo hi) n b)
