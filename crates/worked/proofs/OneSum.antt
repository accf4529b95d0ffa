-- By one sum, a difference whose sum is not 0 has no solution.
use Rattle.std.proofs.Common.{◌≡◌, ℕ, zero, suc, ◌*◌, ◌≤◌, sym, refl, ap, ◌∙◌, ⊎_elim, arith}
use Rattle.std.proofs.lemmas.Bool.{cases_lt}
use Rattle.field.specs.Field.{power}
use Rattle.field.specs.Sums.{power_sum}
use Rattle.field.proofs.Sums.{total_same}
use Rattle.algebra.specs.Vectors.{counted, weight}
use Rattle.prime.specs.Prime.{prime}
use Rattle.scheme.specs.Farm.{Table}
use Rattle.scheme.specs.Differences.{gap, Unsolved}

-- a vector of weight 0 is 0
none : (a k : ℕ) → counted a k ≤ 0 → (a ≡ 0) × (k ≤ 0)
none zero k h = (refl, h)
none (suc a) k h = absurd (let z : ⊥ = omega arith in z)

weightless : (N : ℕ) (e : ℕ → ℕ) → weight N e ≤ 0 → (n : ℕ) → 1 ≤ n → n ≤ N → e n ≡ 0
weightless zero e h n from to = absurd (let z : ⊥ = omega arith in z)
weightless (suc N) e h n from to = at (none (e (suc N)) (weight N e) h) (λ light within. weightless N e light n from within)
  where
    at : (e (suc N) ≡ 0) × (weight N e ≤ 0) → (weight N e ≤ 0 → n ≤ N → e n ≡ 0) → e n ≡ 0
    at x below = ⊎_elim (λ low. below x.1 (omega arith)) (λ high. ap e (let q : n ≡ suc N = omega arith in q) ∙ x.0) (cases_lt n (suc N))

-- by one sum a solution has no weight, and without weight the sum is 0
pub unsolved : (told : Table) (s t : ℕ) → (gap prime told s t 1 ≡ 0 → ⊥) → Unsolved prime 3 1 told s t
unsolved told s t other e x =
    let zero_sum : power_sum prime 3 e 1 ≡ 0 =
    total_same prime 3 _ _ (λ k from to. ap (λ v. prime.times v (power prime 3 (1 * k))) (weightless 3 e x.light k from to)) in
    other (sym (x.sums 1 (omega arith, omega arith)) ∙ zero_sum)
