-- The top of a function is the lowest place at which it is greatest.
use mathlib.Core.Path.{ap}
use Prim.Native.Nat.{ℕ, zero, suc, ◌<◌, ◌≤◌}
use native.Mathlib.Omega.{arith}
use native.Mathlib.Decide.{dec_lt}
use Rattle.scheme.specs.Farm.{top}
use Rattle.scheme.specs.Theorem.{Leading}
use Rattle.scheme.proofs.Counts.{higher_first, higher_second, top_page, top_most}

-- below it all are less
before_top : (e : ℕ → ℕ) (k s : ℕ) → 1 ≤ k → 1 ≤ s → s < top e k → e s < e (top e k)
before_top e zero s one lo lt = absurd (omega arith)
before_top e (suc zero) s one lo lt = absurd (omega (arith, top_page e 1 (omega arith)))
before_top e (suc (suc k)) s one lo lt = elim (dec_lt (e (top e (suc k))) (e (suc (suc k)))) [
  | yes l ↦ (let is = higher_first e (suc (suc k)) (top e (suc k)) l in omega (arith, l, is, ap e is, lt, top_most e (suc k) s (omega arith)))
  | no d ↦ (let is = higher_second e (suc (suc k)) (top e (suc k)) (omega arith) in omega (arith, is, ap e is, before_top e (suc k) s (omega arith) lo (omega arith)))
]

pub leading : Leading
leading e k one = (
  top_page e k one,
  top_most e k,
  λ s lo lt greatest. omega (arith, before_top e k s one lo lt, greatest (top e k) (top_page e k one)),
)
