-- The majority of a page: it is one signature, that of the copies that are not bad; and pages on which all copies are bad have none.
use Rattle.std.proofs.Common.{◌≡◌, ℕ, zero, suc, ◌+◌, ◌*◌, ◌≤◌, ◌≢◌, true, false, not, nat_eq, is_none, Some, None, Option, MatchBool, MatchOption, refl, sym, ap, subst, ◌∙◌, arith, eq-eqb, ne_eqb}
use native.Mathlib.Decide.{ℕ_discrete, dec_lt}
use Rattle.scheme.specs.Farm.{Table, Station, count, agree, holders, Majority, Decided, Bad, group}
use Rattle.scheme.proofs.Counts.{agree_apart, agree_most, count_le, count_add}
use Rattle.scheme.proofs.Search.{sure}
use Rattle.scheme.proofs.Tables.{holder}

module _ (M : ℕ) (R : Table) where
  pub not_bad : (s n : ℕ) → ¬ Bad M R s n → Majority M R n (R s n)
  not_bad s n = sure (dec_lt M (2 * group M R n s))

  -- a signature with a majority is one that a station holds
  pub none_decided : (n : ℕ) → ((s : ℕ) → Station M s → Bad M R s n) → ¬ Decided M R n
  none_decided n all d =
      let s = holder M R n d.0 (omega (arith, d.1)) in
      all s.0 s.1 (omega (arith, d.1, ap (holders M R n) s.2))

  -- two majorities have a station in common
  pub majority_one : (n v w : ℕ) → Majority M R n v → Majority M R n w → v ≡ w
  majority_one n v w x y = elim (ℕ_discrete v w) [
    | yes e ↦ e
    | no d ↦ absurd (omega (
      arith,
      x,
      y,
      count_add M (λ s. agree (R s n) v) (λ s. agree (R s n) w),
      count_le M (λ s. agree (R s n) v + agree (R s n) w) (λ _. 1) (λ s _. one_of (R s n) v w d),
      count_ones M,
    ))
  ]
    where
      one_of : (a b c : ℕ) → b ≢ c → agree a b + agree a c ≤ 1
      one_of a b c d = elim (ℕ_discrete a b) [
        | yes e ↦ omega (arith, agree_most a b, agree_apart a c (λ x. d (sym e ∙ x)))
        | no n ↦ omega (arith, agree_most a c, agree_apart a b n)
      ]

      count_ones : (k : ℕ) → count k (λ _. 1) ≡ k
      count_ones zero = refl
      count_ones (suc k) = let ih = count_ones k in omega arith

  -- a copy other than the majority is bad
  pub other_bad : (s n v : ℕ) → Majority M R n v → R s n ≢ v → Bad M R s n
  other_bad s n v most d own = d (majority_one n (R s n) v own most)

  -- whether a page is decided, by the majority that is told
  pub undecided_none : (n : ℕ) (o : Option ℕ) → MatchOption o (¬ Decided M R n) (Majority M R n) → true ≡ is_none o → ¬ Decided M R n
  undecided_none n None h is = h
  undecided_none n (Some v) h is = absurd cc

  pub decided_some : (n : ℕ) (o : Option ℕ) → MatchOption o (¬ Decided M R n) (Majority M R n) → false ≡ is_none o → Decided M R n
  decided_some n None h is = absurd cc
  decided_some n (Some v) h is = (v, h)

  -- whether a copy is bad, by the majority
  pub bad_unless : (s n v a : ℕ) → Majority M R n v → a ≡ R s n → MatchBool (not (nat_eq a v)) (Bad M R s n) (¬ Bad M R s n)
  bad_unless s n v a most is = elim (ℕ_discrete a v) [
    | yes e ↦ subst (λ b. MatchBool (not b) (Bad M R s n) (¬ Bad M R s n)) (sym (eq-eqb a v e)) (λ bad. bad (subst (Majority M R n) (sym e ∙ is) most))
    | no d ↦ subst (λ b. MatchBool (not b) (Bad M R s n) (¬ Bad M R s n)) (sym (ne_eqb a v d)) (other_bad s n v most (λ e. d (is ∙ e)))
  ]
