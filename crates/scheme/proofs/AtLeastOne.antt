-- Whatever is told, weighing has an outcome, settling has one where weighing asks, and so have the two one after the other.
use mathlib.Core.Path.{◌≡◌, refl, ap, subst}
use mathlib.Core.Bool.{cond}
use mathlib.Core.Logic.{◌≢◌, ◌⊎◌, inl, inr}
use Prim.Native.Nat.{ℕ, ◌≤◌, ◌-◌}
use native.Mathlib.Omega.{arith}
use native.Mathlib.Decide.{ℕ_discrete, dec_le, dec_lt}
use borrow.Author.Tests.{eq-eqb, ne_eqb}
use Rattle.field.specs.Field.{Ops}
use Rattle.algebra.specs.Vectors.{Page}
use Rattle.scheme.specs.Farm.{Table}
use Rattle.scheme.specs.Askings.{first_sums, all_sums, Outcome, over, split, filled, asks}
use Rattle.scheme.specs.Differences.{Gaps, gap}
use Rattle.scheme.specs.Four.{Known, Fails, Scattered, asked, sum_from_leads, row_from_first, row_from_leads}
use Rattle.scheme.specs.Three.{Taken, third, row_of_three}
use Rattle.scheme.specs.Settling.{SettlesFour, SettlesThree, Settles}
use Rattle.scheme.specs.Weighing.{WeighsFour, WeighsThree, Weighs}
use Rattle.scheme.specs.Ending.{Concludes}
use Rattle.scheme.specs.Theorem.{Total}
use Rattle.scheme.proofs.Codes.{Lawful}
use Rattle.scheme.proofs.Search.{dec_and, dec_not, find, lowest, solvable}
use Rattle.scheme.proofs.Pairs.{two_apart}
use Rattle.scheme.proofs.Suspects.{suspect}
use Rattle.scheme.proofs.Known.{known_station, known_some}
use Rattle.scheme.proofs.Taken.{third_is, taken_some}

-- ── additivity is decided
fails : (f : Ops) (M N : ℕ) (E : Gaps) (i : ℕ) → Dec (Fails f M N E i)
fails f M N E i = elim (find M At (λ u a. find (u - 1) (λ t. Before u t) (λ t b. find (t - 1) (λ s. Wrong u t s) (λ s c. wrong u t s)))) [
  | yes r ↦
      let u = r.0 in let t = r.2.0 in let s = r.2.2.0 in let w = r.2.2.2 in
      yes (record { s = s; t = t; u = u; n = w.1.0; stations = omega (arith, r.1, r.2.1, r.2.2.1); others = w.0; page = w.1.1; wrong = w.1.2 })
  | no none ↦ no (λ x.
      let st = x.stations in
      none (x.u, omega arith, (x.t, omega arith, (x.s, omega arith, (x.others, (x.n, x.page, x.wrong))))))
]
  where
    Wrong : ℕ → ℕ → ℕ → Type 0
    Wrong u t s = ((s ≢ i) × (t ≢ i) × (u ≢ i)) × ((n : ℕ) × Page N n × (f.plus (E s t n) (E t u n) ≢ E s u n))

    Before : ℕ → ℕ → Type 0
    Before u t = (s : ℕ) × Page (t - 1) s × Wrong u t s

    At : ℕ → Type 0
    At u = (t : ℕ) × Page (u - 1) t × Before u t

    others : (s t u : ℕ) → Dec ((s ≢ i) × (t ≢ i) × (u ≢ i))
    others s t u = go (ℕ_discrete s i) (ℕ_discrete t i) (ℕ_discrete u i)
      where
        go : Dec (s ≡ i) → Dec (t ≡ i) → Dec (u ≡ i) → Dec ((s ≢ i) × (t ≢ i) × (u ≢ i))
        go (yes e) _ _ = no (λ r. r.0 e)
        go (no a) (yes e) _ = no (λ r. r.1 e)
        go (no a) (no b) (yes e) = no (λ r. r.2 e)
        go (no a) (no b) (no c) = yes (a, b, c)

    wrong : (u t s : ℕ) → Dec (Wrong u t s)
    wrong u t s = dec_and (others s t u) (find N (λ n. f.plus (E s t n) (E t u n) ≢ E s u n) (λ n p. dec_not (ℕ_discrete (f.plus (E s t n) (E t u n)) (E s u n))))

module _ {f : Ops} {N : ℕ} (F : Lawful f N) (bound : ℕ) (T : Table) (own : ℕ → ℕ) where
  -- ── four stations and more
  module _ (M : ℕ) (four : 4 ≤ M) where
    weighs_four : (o : Outcome) × WeighsFour f M N bound T own o
    weighs_four = elim (two_apart (λ s t p. suspect F bound T M s t)) [
      | yes x ↦ (over, inl x)
      | no cross ↦
          let k = known_some F M bound T four cross in
          from k.0 k.1 k.2 (fails f M N k.0 k.1) (ℕ_discrete k.1 0)
    ]
      where
        from : (E : Gaps) (i : ℕ) → Known f M N bound T E i → Dec (Fails f M N E i) → Dec (i ≡ 0) → (o : Outcome) × WeighsFour f M N bound T own o
        from E i known (yes x) _ = (over, inr (E, i, known, x))
        from E i known (no adds) (yes none) =
            (filled (row_from_first f own E), (E, subst (Known f M N bound T E) none known, subst (λ i. ¬ Fails f M N E i) none adds, λ t n a p. refl))
        from E i known (no adds) (no some) = elim (lowest N (Scattered M E i) (λ n p. dec_lt _ _)) [
          | inl r ↦ (split r.0, (E, i, known, omega arith, adds, r.1))
          | inr none ↦ (asks (asked i), (E, i, record { known = known; station = omega arith; adds = adds; gathered = none }, refl))
        ]

    settles_four : (U : Table) (k : ℕ) → WeighsFour f M N bound T own (asks k) → (2 ≤ k) × (k ≤ M) × ((o : Outcome) × SettlesFour f M N bound T U own o)
    settles_four U k x = (
      omega (arith, other),
      omega (arith, other),
      elim (solvable f N bound (all_sums N bound) (sum_from_leads f M N bound U x.0 x.1)) [
        | yes e ↦ (filled (row_from_leads f M own x.0 x.1 e.0), (x.0, x.1, e.0, x.2, e.1, λ t n a p. refl))
        | no none ↦ (over, (x.0, x.1, x.2, λ e y. none (e, y)))
      ],
    )
      where
        other : (2 ≤ k) × (k ≤ M)
        other =
            let i = known_station x.2.known x.2.station in
            elim (ℕ_discrete x.1 1) [
              | yes e ↦ omega (arith, x.3, ap (λ b. cond b 2 x.1) (eq-eqb x.1 1 e))
              | no d ↦ omega (arith, x.3, ap (λ b. cond b 2 x.1) (ne_eqb x.1 1 d))
            ]

  -- ── three stations
  settles_taken : (U : Table) (s t : ℕ) (e : ℕ → ℕ) → Taken f N bound T s t e
      → SettlesThree f N bound T U own over ⊎ ((R : Table) × SettlesThree f N bound T U own (filled R))
  settles_taken U s t e x = elim (solvable f N bound (all_sums N bound) (gap f U 1 (third s t))) [
    | yes d ↦ inr (row_of_three f own s t e d.0, (s, t, e, d.0, x, d.1, λ r n a p. refl))
    | no none ↦ inl (s, t, e, x, λ d y. none (d, y))
  ]

  weighs_three : (o : Outcome) × WeighsThree f N bound T own o
  weighs_three = elim (taken_some F bound T) [
    | inr none ↦ (over, inl none)
    | inl x ↦ elim (dec_le (all_sums N bound) (first_sums 3 bound)) [
      | no more ↦ (asks (third x.0 x.1), (omega arith, (x.0, x.1, x.2, x.3, refl)))
      | yes no_more ↦ elim (settles_taken T x.0 x.1 x.2 x.3) [
        | inl y ↦ (over, inr (no_more, y))
        | inr y ↦ (filled y.0, (no_more, y.1))
      ]
    ]
  ]

  settles_three : (U : Table) (k : ℕ) → WeighsThree f N bound T own (asks k) → (2 ≤ k) × (k ≤ 3) × ((o : Outcome) × SettlesThree f N bound T U own o)
  settles_three U k x =
      let y = x.1 in
      let i = (third_is y.0 y.1 y.3.pair).0 in
      (omega (arith, y.4), omega (arith, y.4), elim (settles_taken U y.0 y.1 y.2 y.3) [ inl z ↦ (over, z) | inr z ↦ (filled z.0, z.1) ])

-- where settling comes to an outcome, and asks nobody, so do the two one after the other
module _ (W S : Outcome → Type 0) (settles : (k : ℕ) → W (asks k) → (o : Outcome) × S o) (asks_none : (k : ℕ) → ¬ S (asks k)) where
  then_settles : (k : ℕ) → W (asks k) → (o : Outcome) → S o → (o : Outcome) × Concludes W S o
  then_settles k w over x = (over, inr ((k, w), x))
  then_settles k w (split n) x = (split n, inr ((k, w), x))
  then_settles k w (filled R) x = (filled R, inr ((k, w), x))
  then_settles k w (asks j) x = absurd (asks_none j x)

  concludes_some : (o : Outcome) → W o → (o : Outcome) × Concludes W S o
  concludes_some over w = (over, inl w)
  concludes_some (split n) w = (split n, inl w)
  concludes_some (filled R) w = (filled R, inl w)
  concludes_some (asks k) w = let s = settles k w in then_settles k w s.0 s.1

pub some_outcome : Total
some_outcome f l spread M N bound three le T U own = (
  weighs,
  settles,
  concludes_some (Weighs f M N bound T own) (Settles f M N bound T U own) (λ k w. (settles k w).2) none weighs.0 weighs.1,
)
  where
    F : Lawful f N
    F = record { laws = l; spread = spread; places = le }

    weighs : (o : Outcome) × Weighs f M N bound T own o
    weighs = elim (dec_le 4 M) [
      | yes four ↦ let o = weighs_four F bound T own M four in (o.0, inl (four, o.1))
      | no k ↦ let o = weighs_three F bound T own in (o.0, inr (omega arith, o.1))
    ]

    settles : (k : ℕ) → Weighs f M N bound T own (asks k) → (2 ≤ k) × (k ≤ M) × ((o : Outcome) × Settles f M N bound T U own o)
    settles k (inl x) = let r = settles_four F bound T own M x.0 U k x.1 in (r.0, r.1, (r.2.0, inl (x.0, r.2.1)))
    settles k (inr x) = let r = settles_three F bound T own U k x.1 in (r.0, omega (arith, r.1, x.0), (r.2.0, inr (x.0, r.2.1)))

    none : (k : ℕ) → ¬ Settles f M N bound T U own (asks k)
    none k (inl x) = x.1
    none k (inr x) = x.1
