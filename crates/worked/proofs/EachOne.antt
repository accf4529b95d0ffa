-- What holds of each of three pages, or of each of four stations, holds of all.
use Rattle.std.proofs.Common.{◌≡◌, ℕ, sym, subst, arith}
use native.Mathlib.Decide.{ℕ_discrete}
use Rattle.algebra.specs.Vectors.{Page}
use Rattle.scheme.specs.Farm.{Station}

pub each_page : (P : ℕ → Type 0) → P 1 → P 2 → P 3 → (n : ℕ) → Page 3 n → P n
each_page P a b c n page = elim (ℕ_discrete n 1) [
  | yes e ↦ subst P (sym e) a
  | no other ↦ elim (ℕ_discrete n 2) [
    | yes e ↦ subst P (sym e) b
    | no more ↦ subst P (let e : 3 ≡ n = omega arith in e) c
  ]
]

pub each_station : (P : ℕ → Type 0) → P 1 → P 2 → P 3 → P 4 → (s : ℕ) → Station 4 s → P s
each_station P a b c d s station = elim (ℕ_discrete s 4) [
  | yes e ↦ subst P (sym e) d
  | no other ↦ each_page P a b c s (omega arith, omega arith)
]
