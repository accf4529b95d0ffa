-- Totals over the pages and the sums of a vector, in a field; and how its sums give an entry of a vector.
use mathlib.Core.Path.{◌≡◌, refl, sym, ap, ap₂, ◌∙◌}
use mathlib.Core.List.{List, [], ◌∷◌}
use mathlib.Core.Logic.{◌≢◌}
use Prim.Native.Nat.{ℕ, zero, suc}
use native.Mathlib.Omega.{arith}
use native.Mathlib.Decide.{ℕ_discrete}
use Rattle.algebra.specs.Vectors.{Page}
use Rattle.algebra.proofs.Field.{Field, nought_add, noughts_add, nought_left, mul_some, mul_inv_cancel}
use Rattle.algebra.proofs.Ring.{ring, nought, unit, ◌⊞◌, ◌⊠◌}
use Rattle.algebra.proofs.Polynomials.{eval, window}

module _ (K : Field) where
  open K use {El, nought as 𝟘, unit as 𝟙, add as ◌⊕◌, mul as ◌⊗◌, inv, add_nought}

  infixl 60 ◌⊕◌
  infixl 70 ◌⊗◌
  -- x to the power j
  abbrev pub pow : El → ℕ → El
  pow x zero = 𝟙
  pow x (suc j) = pow x j ⊗ x

  -- the total of e 1 .. e N
  abbrev pub total : ℕ → (ℕ → El) → El
  total zero e = 𝟘
  total (suc N) e = total N e ⊕ e (suc N)

  pub total_linear : (N : ℕ) (c : El) (d e h : ℕ → El) → ((n : ℕ) → c ⊗ d n ⊕ e n ≡ h n) → c ⊗ total N d ⊕ total N e ≡ total N h
  total_linear zero c d e h is = ring K 1 (λ c. (c ⊠ nought ⊞ nought, nought)) refl c
  total_linear (suc N) c d e h is =
      ring K 5 (λ c a b x y. (c ⊠ (a ⊞ x) ⊞ (b ⊞ y), c ⊠ a ⊞ b ⊞ (c ⊠ x ⊞ y))) refl c (total N d) (total N e) (d (suc N)) (e (suc N))
      ∙ ap₂ ◌⊕◌ (total_linear N c d e h is) (is (suc N))

  pub total_nought : (N : ℕ) (e : ℕ → El) → ((n : ℕ) → Page N n → e n ≡ 𝟘) → total N e ≡ 𝟘
  total_nought zero e h = refl
  total_nought (suc N) e h = noughts_add K (total_nought N e (λ n b. h n (omega arith))) (h (suc N) (omega arith))

  -- where one page at most has an entry
  pub total_one : (N : ℕ) (e : ℕ → El) (n : ℕ) → Page N n → ((m : ℕ) → Page N m → m ≢ n → e m ≡ 𝟘) → total N e ≡ e n
  total_one zero e n b h = absurd (omega arith)
  total_one (suc N) e n b h = elim (ℕ_discrete n (suc N)) [
    | yes is ↦ ap₂ ◌⊕◌ (total_nought N e (λ m c. h m (omega arith) (omega arith))) (ap e (sym is)) ∙ nought_add K (e n)
    | no d ↦ ap₂ ◌⊕◌ (total_one N e n (omega arith) (λ m c. h m (omega arith))) (h (suc N) (omega arith) (omega arith)) ∙ add_nought (e n)
  ]

  -- the points of the pages differ, and none is nought
  pub record Points (X : ℕ → El) (N : ℕ) : Type 0 where
    pub apart : (m n : ℕ) → Page N m → Page N n → X m ≡ X n → m ≡ n
    pub some : (n : ℕ) → Page N n → ¬ (X n ≡ 𝟘)

  module _ (X : ℕ → El) (N : ℕ) where
    -- sum j of e, where page n has the point X n
    abbrev pub sum : (ℕ → El) → ℕ → El
    sum e j = total N (λ n. e n ⊗ pow (X n) j)

    -- the sums of e n times p (X n) are p against the sums of e
    pub sum_eval : (e : ℕ → El) (p : List El) (j : ℕ) → sum (λ n. e n ⊗ eval K p (X n)) j ≡ window K p (sum e) j
    sum_eval e [] j = total_nought N _ (λ n b. ring K 2 (λ e x. (e ⊠ nought ⊠ x, nought)) refl (e n) (pow (X n) j))
    sum_eval e (c ∷ p) j =
        sym (total_linear N c _ _ _ (λ n. ring K 5 (λ c e y x v. (c ⊠ (e ⊠ y) ⊞ e ⊠ v ⊠ (y ⊠ x), e ⊠ (c ⊞ x ⊠ v) ⊠ y)) refl c (e n) (pow (X n) j) (X n) (eval K p (X n))))
        ∙ ap (λ z. c ⊗ sum e j ⊕ z) (sum_eval e p (suc j))

    -- a polynomial that is nought at all other entries, against the sums from 1 on
    pub window_one : (e : ℕ → El) (p : List El) (n : ℕ) → Page N n → ((m : ℕ) → Page N m → m ≢ n → e m ⊗ eval K p (X m) ≡ 𝟘)
        → window K p (sum e) 1 ≡ e n ⊗ (X n ⊗ eval K p (X n))
    window_one e p n b others =
        sym (sum_eval e p 1)
        ∙ total_one N _ n b (λ m c d. nought_left K (pow (X m) 1) (others m c d))
        ∙ ring K 3 (λ e v x. (e ⊠ v ⊠ (unit ⊠ x), e ⊠ (x ⊠ v))) refl (e n) (eval K p (X n)) (X n)

    -- so it gives the entry of page n, unless it is nought there too
    pub entry_from_sums : Points X N → (e : ℕ → El) (p : List El) (n : ℕ) → Page N n → ((m : ℕ) → Page N m → m ≢ n → e m ⊗ eval K p (X m) ≡ 𝟘)
        → ¬ (eval K p (X n) ≡ 𝟘) → e n ≡ window K p (sum e) 1 ⊗ inv (X n ⊗ eval K p (X n))
    entry_from_sums points e p n b others some =
        sym (mul_inv_cancel K (e n) (X n ⊗ eval K p (X n)) (mul_some K (X n) (eval K p (X n)) (points.some n b) some))
        ∙ ap (λ z. z ⊗ inv (X n ⊗ eval K p (X n))) (sym (window_one e p n b others))
