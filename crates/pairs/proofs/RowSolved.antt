-- The differences of pairs, written one by one into their places: of the stations below t and t, and then of all up to t.
use Rattle.std.proofs.Common.{◌≡◌, ℕ, ◌+◌, ◌<◌, ◌≤◌, ◌≢◌, List, length, get_or, set, sym, ap, ◌∙◌, subst, arith, get_or-set_same, get_or-set_other}
use native.Mathlib.Decide.{ℕ_discrete}
use Rattle.pairs.specs.Held.{pair_place}
use Rattle.scheme.specs.Pairs.{Pair}
use Rattle.pairs.proofs.Places.{place_fits, rows_before}

module _ {A : Type 0} (s t k : ℕ) (xs : List A) (v : A) (place : k ≡ pair_place s t) where
  pub solved_more : (P : ℕ → A → Type 0) → 1 ≤ s → s < t → t ≤ 8 → length xs ≡ 28 → ((a : ℕ) (d : A) → 1 ≤ a → a < s → P a (get_or xs (pair_place a t) d)) → P s v →
      (a : ℕ) (d : A) → 1 ≤ a → a < s + 1 → P a (get_or (set xs k v) (pair_place a t) d)
  solved_more P one rising few full before here a d lo up = elim (ℕ_discrete a s) [
    | yes e ↦
        subst (λ i. P a (get_or (set xs k v) i d)) (place ∙ ap (λ b. pair_place b t) (sym e))
        (subst (P a) (sym (get_or-set_same xs k v d (omega (arith, place_fits s t one rising few)))) (subst (λ b. P b v) (sym e) here))
    | no other ↦ subst (P a) (sym (get_or-set_other xs k (pair_place a t) v d (let ne : pair_place a t ≢ k = omega arith in ne))) (before a d lo (omega arith))
  ]

  pub rest_stays : (ys : List A) → 1 ≤ s → ((i : ℕ) (d : A) → i < pair_place 1 t → get_or xs i d ≡ get_or ys i d) →
      (i : ℕ) (d : A) → i < pair_place 1 t → get_or (set xs k v) i d ≡ get_or ys i d
  rest_stays ys one same i d below = get_or-set_other xs k i v d (let ne : i ≢ k = omega arith in ne) ∙ same i d below

-- what holds of the pairs before t and of those of t holds of all up to t
module _ {A : Type 0} (M k : ℕ) (xs ys : List A) (P : ℕ → ℕ → A → Type 0) (two : 2 ≤ k) (before : (s t : ℕ) (d : A) → Pair M s t → t < k → P s t (get_or xs (pair_place s t) d))
    (solved : (s : ℕ) (d : A) → 1 ≤ s → s < k → P s k (get_or ys (pair_place s k) d)) (stay : (i : ℕ) (d : A) → i < pair_place 1 k → get_or ys i d ≡ get_or xs i d) where
  pub rows_more : (s t : ℕ) (d : A) → Pair M s t → t < k + 1 → P s t (get_or ys (pair_place s t) d)
  rows_more s t d pair up = elim (ℕ_discrete t k) [
    | yes e ↦ subst (λ t. P s t (get_or ys (pair_place s t) d)) (sym e) (solved s d pair.0 (omega arith))
    | no other ↦
        (let lt : t < k = omega arith in
        subst (P s t) (sym (stay (pair_place s t) d (omega (arith, rows_before t k (omega arith) lt)))) (before s t d pair lt))
  ]
