-- A table: stray copies, majorities, and what closing finds.
use mathlib.Core.Path.{◌≡◌, ap}
use mathlib.Core.Logic.{◌⊎◌, inl, inr}
use Prim.Native.Nat.{ℕ, ◌≤◌, ◌+◌, ◌*◌}
use native.Mathlib.Omega.{arith}
use native.Mathlib.Decide.{ℕ_discrete, dec_lt}
use Rattle.algebra.specs.Vectors.{Page}
use Rattle.scheme.specs.Farm.{Table, Station, count, agree, differ, Same, holders, Majority, Decided, Bad, group, lead, stray, strays}
use Rattle.scheme.specs.Closing.{Splits, Reports}
use Rattle.scheme.specs.Theorem.{Closes}
use Rattle.scheme.proofs.Counts.{agree_apart, differ_same, differ_third, count_same, count_le, count_add, count_swap, count_some, count_two, top_most}
use Rattle.scheme.proofs.Search.{lowest, dec_not, sure}

module _ (M : ℕ) (P : Table) where
  -- two copies that are not stray agree
  pub differ_strays : (N s t : ℕ) → count N (λ n. differ (P s n) (P t n)) ≤ count N (stray M P s) + count N (stray M P t)
  differ_strays N s t =
      omega (
        arith,
        count_le N (λ n. differ (P s n) (P t n)) (λ n. stray M P s n + stray M P t n) (λ n b. differ_third (P s n) (P t n) (P (lead M P n) n)),
        count_add N (stray M P s) (stray M P t),
      )

  -- a row differs from any choice of stations on no more pages than there are stray copies
  pub choice_strays : (N i : ℕ) (g : ℕ → ℕ) → Station M i → ((n : ℕ) → Station M (g n)) → count N (λ n. differ (P i n) (P (g n) n)) ≤ strays M P N
  choice_strays N i g a b =
      omega (
        arith,
        count_le N (λ n. differ (P i n) (P (g n) n)) (λ n. count M (λ s. stray M P s n)) (λ n c. page n (ℕ_discrete i (g n))),
        count_swap M N (stray M P),
      )
    where
      page : (n : ℕ) → Dec (i ≡ g n) → differ (P i n) (P (g n) n) ≤ count M (λ s. stray M P s n)
      page n (yes e) = omega (arith, differ_same (P i n) (P (g n) n) (ap (λ s. P s n) e))
      page n (no d) = omega (arith, differ_third (P i n) (P (g n) n) (P (lead M P n) n), count_two M i (g n) (λ s. stray M P s n) a (b n) d)

  -- a signature that is held at all is held by some row
  pub holder : (n v : ℕ) → 1 ≤ holders M P n v → (s : ℕ) × Station M s × (P s n ≡ v)
  holder n v h = let r = count_some M (λ s. agree (P s n) v) h in (r.0, r.1, held r.0 r.2)
    where
      held : (s : ℕ) → 1 ≤ agree (P s n) v → P s n ≡ v
      held s y = elim (ℕ_discrete (P s n) v) [ yes e ↦ e | no d ↦ absurd (omega (arith, agree_apart (P s n) v d)) ]

  -- a signature with a majority is that of the largest group
  pub decide_majority : (n : ℕ) → Dec (Decided M P n)
  decide_majority n = elim (dec_lt M (2 * group M P n (lead M P n))) [
    | yes y ↦ yes (P (lead M P n) n, y)
    | no k ↦ no (λ r.
        let s = holder n r.0 (omega (arith, r.1)) in
        k (omega (arith, r.1, top_most (group M P n) M s.0 s.1, ap (holders M P n) s.2)))
  ]

  pub closing : (N : ℕ) → ((n : ℕ) × Splits M N P n) ⊎ Reports M N P
  closing N = elim (lowest N (λ n. ¬ Decided M P n) (λ n b. dec_not (decide_majority n))) [
    | inl r ↦ inl r
    | inr all ↦ inr (λ n b. sure (decide_majority n) (all n b))
  ]

module _ (M N : ℕ) (Q R : Table) (same : Same M N Q R) (n : ℕ) (b : Page N n) where
  majority_same : (v : ℕ) → Majority M Q n v → Majority M R n v
  majority_same v most = omega (arith, most, count_same M (λ s. agree (Q s n) v) (λ s. agree (R s n) v) (λ s c. ap (λ x. agree x v) (same s n c b)))

  pub decided_same : Decided M Q n → Decided M R n
  decided_same d = (d.0, majority_same d.0 d.1)

  pub bad_same : (s : ℕ) → Station M s → Bad M R s n → Bad M Q s n
  bad_same s a bad most = bad (rw (same s n a b) at (majority_same (Q s n) most))

pub closes : Closes
closes M N R = (closing M R N, λ n split all. split.1 (all n split.0))
