-- The weight of a vector: how it compares with the weights of others.
use mathlib.Core.Path.{◌≡◌, refl, sym, ap, ap₂, ◌∙◌}
use mathlib.Core.Bool.{Bool, true, false, cond}
use mathlib.Core.Logic.{◌≢◌, ◌⊎◌, inl, inr}
use Prim.Native.Nat.{ℕ, zero, suc, ◌≤◌, ◌+◌}
use native.Mathlib.Omega.{arith}
use native.Mathlib.Decide.{ℕ_discrete}
use lib.Dec.{eqb}
use borrow.Author.Tests.{eqb-true, eqb-false}
use Rattle.algebra.specs.Vectors.{Page, counted, weight}

counted_most : (a k : ℕ) → counted a k ≤ suc k
counted_most zero k = omega arith
counted_most (suc a) k = omega arith

counted_some : (a k : ℕ) → ¬ (a ≡ 0) → counted a k ≡ suc k
counted_some zero k d = absurd (d refl)
counted_some (suc a) k d = refl

counted_swap : (a b k : ℕ) → counted a (counted b k) ≡ counted b (counted a k)
counted_swap zero b k = refl
counted_swap (suc a) zero k = refl
counted_swap (suc a) (suc b) k = refl

counted_both : (a b k m n : ℕ) → k ≤ m + n → counted (counted a b) k ≤ counted a m + counted b n
counted_both zero zero k m n h = h
counted_both zero (suc b) k m n h = omega arith
counted_both (suc a) zero k m n h = omega arith
counted_both (suc a) (suc b) k m n h = omega arith

pub weight_most : (N : ℕ) (e : ℕ → ℕ) → weight N e ≤ N
weight_most zero e = omega arith
weight_most (suc N) e = omega (arith, weight_most N e, counted_most (e (suc N)) (weight N e))

pub weight_same : (N : ℕ) (d e : ℕ → ℕ) → ((n : ℕ) → Page N n → d n ≡ e n) → weight N d ≡ weight N e
weight_same zero d e h = refl
weight_same (suc N) d e h = ap₂ counted (h (suc N) (omega arith)) (weight_same N d e (λ n b. h n (omega arith)))

-- two vectors that differ on page n alone, where d is 0
pub weight_at : (N : ℕ) (d e : ℕ → ℕ) (n : ℕ) → Page N n → d n ≡ 0 → ((m : ℕ) → m ≢ n → e m ≡ d m) → weight N e ≡ counted (e n) (weight N d)
weight_at zero d e n b z h = absurd (omega arith)
weight_at (suc N) d e n b z h = elim (ℕ_discrete n (suc N)) [
  | yes is ↦
      ap₂ counted (ap e (sym is)) (weight_same N e d (λ m c. h m (omega arith)) ∙ sym (ap (λ a. counted a (weight N d)) (ap d (sym is) ∙ z)))
  | no apart ↦
      ap₂ counted (h (suc N) (λ is. apart (sym is))) (weight_at N d e n (omega arith) z h) ∙ counted_swap (d (suc N)) (e n) (weight N d)
]

-- w with 0 on page n
abbrev pub without : ℕ → (ℕ → ℕ) → ℕ → ℕ
without n w m = cond (eqb m n) 0 (w m)

by_test : (b : Bool) (P : Bool → Type 0) → (b ≡ true → P true) → (b ≡ false → P false) → P b
by_test true P h k = h refl
by_test false P h k = k refl

pub without_zero : (n : ℕ) (w : ℕ → ℕ) (m : ℕ) → without n w m ≡ 0 → (m ≡ n) ⊎ (w m ≡ 0)
without_zero n w m =
    by_test (eqb m n) (λ b. cond b 0 (w m) ≡ 0 → (m ≡ n) ⊎ (w m ≡ 0)) (λ t z. inl (eqb-true m n t)) (λ t z. inr z)

pub weight_without : (N : ℕ) (w : ℕ → ℕ) (n : ℕ) → Page N n → ¬ (w n ≡ 0) → weight N w ≡ suc (weight N (without n w))
weight_without N w n b some =
    weight_at N (without n w) w n b
    (by_test (eqb n n) (λ t. cond t 0 (w n) ≡ 0) (λ _. refl) (λ t. absurd (eqb-false n n t refl)))
    (λ m d. by_test (eqb m n) (λ t. w m ≡ cond t 0 (w m)) (λ t. absurd (d (eqb-true m n t))) (λ _. refl))
    ∙ counted_some (w n) (weight N (without n w)) some

-- not 0 where d or e is not 0
abbrev pub either : (d e : ℕ → ℕ) → ℕ → ℕ
either d e n = counted (d n) (e n)

pub either_zero : (d e : ℕ → ℕ) (n : ℕ) → either d e n ≡ 0 → (d n ≡ 0) × (e n ≡ 0)
either_zero d e n = both (d n) (e n)
  where
    both : (a b : ℕ) → counted a b ≡ 0 → (a ≡ 0) × (b ≡ 0)
    both zero b z = (refl, z)
    both (suc a) b z = absurd (omega arith)

pub weight_either : (N : ℕ) (d e : ℕ → ℕ) → weight N (either d e) ≤ weight N d + weight N e
weight_either zero d e = omega arith
weight_either (suc N) d e = counted_both (d (suc N)) (e (suc N)) _ _ _ (weight_either N d e)
