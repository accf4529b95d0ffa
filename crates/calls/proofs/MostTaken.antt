-- No check takes more sums and signatures than the most: all pages of a plain one, else the first sums of each station and the rest of one.
use Rattle.std.proofs.Common.{◌≡◌, ℕ, ◌+◌, ◌-◌, ◌*◌, ◌≤◌, min, cond, sym, ap, ◌∙◌, subst, arith}
use Rattle.std.proofs.Math.Nat.{mul_comm, add-mul}
use native.Mathlib.Decide.{ℕ_discrete}
use borrow.Author.Tests.{ne_eqb}
use Rattle.scheme.specs.Askings.{first_sums, all_sums, Plain}
use Rattle.calls.specs.Promise.{most_taken}
use Rattle.calls.proofs.FirstSums.{first_sums_more, first_sums_between, plain_short, not_plain_long}

module _ (M N bound : ℕ) where
  -- one sum for every number of stations: all but two tell the first sums, one of these tells all
  most_is : most_taken M N bound ≡ (M - 2) * min N (first_sums M bound) + all_sums N bound
  most_is = elim (ℕ_discrete M 3) [
    | yes e ↦ subst (λ (M : ℕ). most_taken M N bound ≡ (M - 2) * min N (first_sums M bound) + all_sums N bound) (sym e) (omega arith)
    | no d ↦
        ap (λ t. cond t (min N (first_sums 3 bound) + min N (2 * bound)) ((M - 2) * min N bound + min N (2 * bound))) (ne_eqb M 3 d)
        ∙ ap (λ h. (M - 2) * min N h + all_sums N bound) (sym (first_sums_more M bound d))
  ]

  -- a station more than those that are not counted
  one_more : (h : ℕ) → 3 ≤ M → h * (M - 1) ≡ (M - 2) * h + h
  one_more h three =
      let e : M - 1 ≡ M - 2 + 1 = omega arith in
      omega (arith, ap (λ m. h * m) e, mul_comm h (M - 2 + 1), add-mul (M - 2) 1 h)

  pub most_pages : 3 ≤ M → 1 ≤ bound → Plain M N bound → N * (M - 1) ≤ most_taken M N bound
  most_pages three some plain =
      let short : min N (first_sums M bound) ≡ N = omega (arith, plain_short M N bound plain) in
      omega (arith, one_more N three, most_is, ap (λ h. (M - 2) * h) short, plain_short M N bound plain, first_sums_between M bound some)

  -- the first sums of every station, and what is left of one
  pub most_sums : 3 ≤ M → 1 ≤ bound → ¬ Plain M N bound → first_sums M bound * (M - 1) + (all_sums N bound - first_sums M bound) ≤ most_taken M N bound
  most_sums three some off =
      let h = first_sums M bound in
      let long : min N h ≡ h = omega (arith, not_plain_long M N bound three off) in
      omega (arith, one_more h three, most_is, ap (λ x. (M - 2) * x) long, not_plain_long M N bound three off, first_sums_between M bound some)
