-- How many the first sums are: from the bound to twice as many; and no fewer than the pages in a plain check alone.
use Rattle.std.proofs.Common.{◌≡◌, ℕ, ◌+◌, ◌*◌, ◌/◌, ◌<◌, ◌≤◌, ◌≢◌, cond, sym, ap, subst, inl, inr, arith}
use native.Mathlib.Decide.{ℕ_discrete, dec_le}
use borrow.Author.Tests.{ne_eqb}
use Rattle.refusal.specs.Rules.{Within}
use Rattle.scheme.specs.Askings.{first_sums, all_sums, Plain}

module _ (M bound : ℕ) where
  pub first_sums_more : M ≢ 3 → first_sums M bound ≡ bound
  first_sums_more d = ap (λ t. cond t ((3 * bound + 1) / 2) bound) (ne_eqb M 3 d)

  pub first_sums_between : 1 ≤ bound → Within bound (2 * bound) (first_sums M bound)
  first_sums_between some = elim (ℕ_discrete M 3) [
    | yes e ↦ subst (λ (M : ℕ). Within bound (2 * bound) (first_sums M bound)) (sym e) (omega arith)
    | no d ↦ omega (arith, first_sums_more d)
  ]

module _ (M N bound : ℕ) where
  pub plain_short : Plain M N bound → N ≤ first_sums M bound
  plain_short (inl p) = omega (arith, first_sums_more M bound (omega arith))
  plain_short (inr p) = subst (λ (M : ℕ). N ≤ first_sums M bound) (sym p.0) (omega arith)

  pub not_plain_long : 3 ≤ M → ¬ Plain M N bound → first_sums M bound ≤ N
  not_plain_long three off = elim (dec_le (first_sums M bound) N) [
    | yes le ↦ le
    | no d ↦ absurd (off (elim (ℕ_discrete M 3) [
      | yes e ↦ inr (e, subst (λ (M : ℕ). N < first_sums M bound) e (omega arith))
      | no n ↦ inl (omega arith, omega (arith, first_sums_more M bound n))
    ]))
  ]

  -- the first sums are some of all
  pub firsts_among : 3 ≤ M → 1 ≤ bound → ¬ Plain M N bound → first_sums M bound ≤ all_sums N bound
  firsts_among three some off = omega (arith, not_plain_long three off, first_sums_between M bound some)
