-- The places of pairs: those with a lower t come first, and 28 are enough for 8 stations.
use Rattle.std.proofs.Common.{◌≡◌, ℕ, zero, suc, ◌+◌, ◌-◌, ◌*◌, ◌/◌, ◌<◌, ◌≤◌, arith, subst, sym}
use native.Mathlib.Decide.{dec_lt}
use Rattle.pairs.specs.Held.{pair_place}

next_row : (t : ℕ) → 2 ≤ t → pair_place 1 (suc t) ≡ pair_place 1 t + (t - 1)
next_row t two = subst (λ k. (suc t - 1) * (suc t - 2) / 2 + (1 - 1) ≡ (t - 1) * (t - 2) / 2 + (1 - 1) + (t - 1)) (let e : t ≡ t = omega arith in e) (at (t - 2) (t - 1) t (suc t - 1) (suc t - 2) (omega arith) (omega arith) (omega arith) (omega arith))
  where
    at : (n a t b c : ℕ) → t ≡ n + 2 → a ≡ n + 1 → b ≡ n + 2 → c ≡ n + 1 → b * c / 2 + (1 - 1) ≡ a * n / 2 + (1 - 1) + a
    at n a t b c e f g h = rw (f, g, h) (omega arith)

pub rows_before : (t v : ℕ) → 2 ≤ t → t < v → pair_place 1 t + (t - 1) ≤ pair_place 1 v
rows_before t zero two lt = absurd (omega arith)
rows_before t (suc v) two lt = elim (dec_lt t v) [
  | yes k ↦ omega (arith, rows_before t v two k, next_row v (omega arith))
  | no k ↦ (let e : v ≡ t = omega arith in subst (λ k. pair_place 1 t + (t - 1) ≤ pair_place 1 (suc k)) (sym e) (omega (arith, next_row t two)))
]

pub place_fits : (s t : ℕ) → 1 ≤ s → s < t → t ≤ 8 → pair_place s t < 28
place_fits s t one rising few = omega (arith, rows_before t 9 (omega arith) (omega arith))
