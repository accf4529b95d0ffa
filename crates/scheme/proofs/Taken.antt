-- Three stations: a pair is taken unless none is solved, and it is one; so is what all sums solve.
use mathlib.Core.Path.{◌≡◌, refl, sym, ap, subst₂}
use mathlib.Core.Bool.{cond}
use mathlib.Core.Logic.{◌≢◌, ◌⊎◌, inl, inr}
use Prim.Native.Nat.{ℕ, ◌<◌, ◌≤◌, ◌+◌, ◌-◌, ◌*◌}
use native.Mathlib.Omega.{arith}
use native.Mathlib.Decide.{ℕ_discrete, dec_le}
use borrow.Author.Tests.{eq-eqb, ne_eqb}
use Rattle.field.specs.Field.{Ops}
use Rattle.algebra.specs.Vectors.{Page, weight, Solves}
use Rattle.algebra.proofs.Weights.{weight_most}
use Rattle.scheme.specs.Farm.{Table}
use Rattle.scheme.specs.Askings.{first_sums, all_sums}
use Rattle.scheme.specs.Pairs.{Pair}
use Rattle.scheme.specs.Differences.{Solution, Unsolved}
use Rattle.scheme.specs.Three.{Taken, third}
use Rattle.scheme.proofs.Codes.{Lawful, solutions_one}
use Rattle.scheme.proofs.Search.{lowest, find_pair}
use Rattle.scheme.proofs.Suspects.{one_solution, one_weight, solved}

-- twice the bound, or all pages
pub all_sums_enough : (N bound : ℕ) → (2 * bound ≤ all_sums N bound) ⊎ (N ≤ all_sums N bound)
all_sums_enough N bound = elim (dec_le N (2 * bound)) [ yes y ↦ inr (omega arith) | no y ↦ inl (omega arith) ]

-- s is 1 or the third, and t neither
pub third_is : (s t : ℕ) → Pair 3 s t → Pair 3 1 (third s t) × ((s ≡ 1) ⊎ ((s ≢ 1) × (s ≡ third s t))) × (t ≢ third s t)
third_is s t p = elim (ℕ_discrete s 1) [
  | yes e ↦ let k : third s t ≡ 5 - t = ap (λ b. cond b (5 - t) 2) (eq-eqb s 1 e) in (omega arith, inl e, omega (arith, k, p, e))
  | no d ↦ let k : third s t ≡ 2 = ap (λ b. cond b (5 - t) 2) (ne_eqb s 1 d) in (omega arith, inr (d, omega arith), omega (arith, k, p, d))
]

module _ {f : Ops} {N : ℕ} (F : Lawful f N) (bound : ℕ) where
  pub second_one : (s d e : ℕ → ℕ) → Solves f N bound (all_sums N bound) s d → Solves f N bound (all_sums N bound) s e → (n : ℕ) → Page N n → d n ≡ e n
  second_one s d e x y =
      solutions_one F bound bound (all_sums N bound) s d e x y
      (elim (all_sums_enough N bound) [ inl k ↦ inl (omega (arith, x.light, y.light)) | inr k ↦ inr k ])

  module _ (T : Table) where
    abbrev First : ℕ → ℕ → (ℕ → ℕ) → Type 0
    First = Solution f N (first_sums 3 bound) T

    pub taken_one : {s t u v : ℕ} {d e : ℕ → ℕ} → Taken f N bound T s t d → Taken f N bound T u v e → (s ≡ u) × (t ≡ v) × ((n : ℕ) → Page N n → d n ≡ e n)
    taken_one {s} {t} {u} {v} {d} {e} x y =
        let p = x.pair in let q = y.pair in
        let same : s + t ≡ u + v = elim (dec_le (s + t) (u + v)) [
          | no k ↦ absurd (omega (arith, x.first u v e q y.solved (omega arith), y.least s t d p x.solved))
          | yes k ↦ elim (dec_le (u + v) (s + t)) [
            | no g ↦ absurd (omega (arith, y.first s t d p x.solved (omega arith), x.least u v e q y.solved))
            | yes g ↦ omega arith
          ]
        ] in
        let su : s ≡ u = omega arith in let tv : t ≡ v = omega arith in
        (su, tv, one_solution F (first_sums 3 bound) T s t d e x.solved (subst₂ (λ s t. First s t e) (sym su) (sym tv) y.solved))

    -- by weight, and by total where weights are equal
    abbrev Ranked : ℕ → ℕ → ℕ → Type 0
    Ranked r s t = (e : ℕ → ℕ) × First s t e × (8 * weight N e + (s + t) ≡ r)

    ranked : (r s t : ℕ) → Dec (Ranked r s t)
    ranked r s t = elim (solved F (first_sums 3 bound) T s t) [
      | no none ↦ no (λ x. none (x.0, x.1))
      | yes e ↦ elim (ℕ_discrete (8 * weight N e.0 + (s + t)) r) [
        | yes is ↦ yes (e.0, e.1, is)
        | no d ↦ no (λ x. d (omega (arith, x.2, one_weight F (first_sums 3 bound) T s t e.0 x.0 e.1 x.1)))
      ]
    ]

    abbrev Some : ℕ → Type 0
    Some r = (s : ℕ) × (t : ℕ) × Pair 3 s t × Ranked r s t

    pub taken_some : ((s : ℕ) × (t : ℕ) × (e : ℕ → ℕ) × Taken f N bound T s t e) ⊎ ((s t : ℕ) → Pair 3 s t → Unsolved f N (first_sums 3 bound) T s t)
    taken_some = elim (lowest (8 * N + 5) Some (λ r b. find_pair 3 (Ranked r) (λ s t p. ranked r s t))) [
      | inl r ↦ let x = r.1.1 in let e = x.3 in inl (x.0, x.1, e.0, is r.0 r.1.2 x.0 x.1 e.0 x.2 e.1 e.2)
      | inr none ↦ inr (λ s t p e x. none (8 * weight N e + (s + t)) (omega (arith, weight_most N e)) (s, t, p, (e, x, refl)))
    ]
      where
        is : (r : ℕ) → ((m : ℕ) → 1 ≤ m → m < r → ¬ Some m) → (s t : ℕ) (e : ℕ → ℕ) → Pair 3 s t → First s t e
            → 8 * weight N e + (s + t) ≡ r → Taken f N bound T s t e
        is r low s t e p x h = record {
          pair = p;
          solved = x;
          least = λ u v d q y. let k = rank u v d q y in omega arith;
          first = λ u v d q y g. let k = rank u v d q y in omega arith;
        }
          where
            rank : (u v : ℕ) (d : ℕ → ℕ) → Pair 3 u v → First u v d → 8 * weight N e + (s + t) ≤ 8 * weight N d + (u + v)
            rank u v d q y = elim (dec_le r (8 * weight N d + (u + v))) [
              | yes k ↦ omega arith
              | no k ↦ absurd (low (8 * weight N d + (u + v)) (omega arith) (omega arith) (u, v, q, (d, y, refl)))
            ]
