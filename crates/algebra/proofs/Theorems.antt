-- The three theorems on vectors of codes.
use mathlib.Core.Path.{◌≡◌, sym, ap, ◌∙◌}
use mathlib.Core.Logic.{◌⊎◌, inl, inr}
use Prim.Native.Nat.{ℕ, ◌≤◌, ◌+◌}
use native.Mathlib.Omega.{arith}
use native.Mathlib.Decide.{dec_le}
use Rattle.algebra.specs.Vectors.{weight, Vanishing, Unique, Far}
use Rattle.algebra.proofs.Weights.{either, either_zero, weight_either, weight_most}
use Rattle.algebra.proofs.Sparse as sparse
use Rattle.algebra.proofs.Codes.{codes, el, el_injective, el_zero, el_injective_zero, point, points, el_power_sum}

pub vanishing : Vanishing
vanishing f l spread N le e small J light sums n b =
    el_injective_zero l (e n) (small n b)
    (sparse.vanishing (codes l) (point l) N (points l spread N le) J e light (λ m. el l (e m)) (λ m c z. ap (el l) z ∙ el_zero l)
    (λ j lo hi. sym (el_power_sum l N e j) ∙ ap (el l) (sums j lo hi) ∙ el_zero l) n b)

pub unique : Unique
unique f l spread N le d e small-d small-e J same enough n b =
    el_injective l (d n) (e n) (small-d n b) (small-e n b) (elim enough [
      | inl light ↦ equal (either d e) (omega (arith, weight_either N d e)) (λ m z. (either_zero d e m z).0) (λ m z. (either_zero d e m z).1)
      | inr all ↦ equal (λ m. 1) (omega (arith, weight_most N (λ m. 1))) (λ m z. absurd (omega arith)) (λ m z. absurd (omega arith))
    ])
  where
    -- where w is 0, so are d and e
    equal : (w : ℕ → ℕ) → weight N w ≤ J → ((m : ℕ) → w m ≡ 0 → d m ≡ 0) → ((m : ℕ) → w m ≡ 0 → e m ≡ 0) → el l (d n) ≡ el l (e n)
    equal w light zero-d zero-e =
        sparse.equal_from_sums (codes l) (point l) N (points l spread N le) J w light (λ m. el l (d m)) (λ m. el l (e m))
        (λ m c z. ap (el l) (zero-d m z) ∙ el_zero l) (λ m c z. ap (el l) (zero-e m z) ∙ el_zero l)
        (λ j lo hi. sym (el_power_sum l N d j) ∙ ap (el l) (same j lo hi) ∙ el_power_sum l N e j) n b

pub far : Far
far f l spread N le d e small-d small-e J same n b differ = (
  elim (dec_le (weight N d + weight N e) J) [ yes light ↦ absurd (equal (inl light)) | no h ↦ omega arith ],
  elim (dec_le N J) [ yes all ↦ absurd (equal (inr all)) | no h ↦ omega arith ],
)
  where
    equal : (weight N d + weight N e ≤ J) ⊎ (N ≤ J) → ⊥
    equal enough = differ (unique f l spread N le d e small-d small-e J same enough n b)
