-- How long the last page of a job is.
use Rattle.std.proofs.Common.{◌≡◌, ℕ, suc, ◌+◌, ◌-◌, ◌*◌, ◌/◌, ◌%◌, ◌<◌, ◌≤◌, min, sym, ap, ◌∙◌, mul_comm, suc-mul, mod-lt, arith}
use Rattle.std.proofs.Math.Nat.{div-add-mod}
use native.Mathlib.Decide.{dec_le}
use Rattle.refusal.specs.Rules.{Within}
use Rattle.page.specs.Pages.{page_count, own_length}

-- so many pages but one do not hold the job, and with the last one they do
pub last_rest : (L b m : ℕ) → 1 ≤ L → suc m ≡ page_count L b → (m * L < b) × (b ≤ m * L + L)
last_rest L b m filled is =
    let whole = b / L in
    let rest = b % L in
    let all : whole * L + rest ≡ b = omega (arith, mul_comm whole L, div-add-mod b L) in
    let short : rest < L = mod-lt b filled in
    elim (dec_le 1 rest) [
      | yes some ↦ (let same : whole ≡ m = omega arith in let many = ap (λ k. k * L) same in omega (arith, all, short, some, many))
      | no none ↦ (let same : whole ≡ suc m = omega arith in let many = ap (λ k. k * L) same ∙ suc-mul m L in omega (arith, all, filled, none, many))
    ]

pub last_length : (L b page : ℕ) → 1 ≤ L → 1 ≤ page → page ≡ page_count L b → Within 1 L (own_length L b page) × ((page - 1) * L + own_length L b page ≡ b)
last_length L b page filled from is =
    let m = page - 1 in
    let next : page ≡ suc m = omega arith in
    let known : own_length L b page ≡ min (b - m * L) L = ap (own_length L b) next in
    let inside = last_rest L b m filled (sym next ∙ is) in
    ((omega (arith, known, inside, filled), omega (arith, known)), omega (arith, known, inside))
