-- Totals of numbers that are all 0, all 1, or at most 1.
use Rattle.std.proofs.Common.{◌≡◌, ℕ, zero, suc, ◌≤◌, refl, arith}
use Rattle.algebra.specs.Vectors.{Page}
use Rattle.scheme.specs.Farm.{count}

pub count_none : (k : ℕ) (e : ℕ → ℕ) → ((i : ℕ) → e i ≡ 0) → count k e ≡ 0
count_none zero e h = refl
count_none (suc k) e h = omega (arith, count_none k e h, h (suc k))

pub count_ones : (k : ℕ) (e : ℕ → ℕ) → ((i : ℕ) → Page k i → e i ≡ 1) → count k e ≡ k
count_ones zero e h = refl
count_ones (suc k) e h = omega (arith, count_ones k e (λ i page. h i (omega arith)), h (suc k) (omega arith))

pub count_most : (k : ℕ) (e : ℕ → ℕ) → ((i : ℕ) → e i ≤ 1) → count k e ≤ k
count_most zero e h = omega arith
count_most (suc k) e h = omega (arith, count_most k e h, h (suc k))
