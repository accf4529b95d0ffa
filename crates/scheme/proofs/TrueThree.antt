-- Three stations with few stray copies: some pair is solved, the pair taken is solved truly, and so are the rows.
use mathlib.Core.Path.{◌≡◌, sym, ap, ap₂, ◌∙◌}
use mathlib.Core.Bool.{cond}
use mathlib.Core.Logic.{◌≢◌, inl, inr}
use Prim.Native.Nat.{ℕ, ◌<◌, ◌≤◌, ◌+◌, ◌-◌, ◌/◌}
use native.Mathlib.Omega.{arith}
use native.Mathlib.Decide.{ℕ_discrete, dec_le, dec_lt}
use lib.Dec.{eqb}
use borrow.Author.Tests.{eq-eqb, ne_eqb}
use Rattle.field.specs.Field.{Ops}
use Rattle.algebra.specs.Vectors.{Page, weight}
use Rattle.scheme.specs.Farm.{Table, Station, count, stray}
use Rattle.scheme.specs.Askings.{first_sums, all_sums}
use Rattle.scheme.specs.Pairs.{Pair}
use Rattle.scheme.specs.Differences.{gap, Solution, Unsolved}
use Rattle.scheme.specs.Three.{Taken, third, FromFirst, row_of_three}
use Rattle.scheme.proofs.Counts.{count_two, count_three}
use Rattle.scheme.proofs.Codes.{minus_back}
use Rattle.scheme.proofs.Taken.{all_sums_enough, third_is}
use Rattle.scheme.proofs.TrueGaps.{Farm, Tells, gap_light, gap_solves, gap_only}

module _ {f : Ops} {N bound : ℕ} {P : Table} (farm : Farm f 3 N bound P) where
  abbrev h : ℕ
  h = first_sums 3 bound

  abbrev strays_of : ℕ → ℕ
  strays_of s = count N (stray 3 P s)

  -- ── the first asking
  module _ (T : Table) (told : (s : ℕ) → Station 3 s → Tells f N P T h s) where
    gap_first : (s t : ℕ) → Station 3 s → Station 3 t → weight N (gap f P s t) ≤ h / 2 → Solution f N h T s t (gap f P s t)
    gap_first s t a b = gap_solves farm T (h / 2) h s t (told s a) (told t b)

    pub some_solved : ¬ ((s t : ℕ) → Pair 3 s t → Unsolved f N h T s t)
    some_solved none =
        let far : (s t : ℕ) → Pair 3 s t → h / 2 < weight N (gap f P s t) = λ s t p.
        elim (dec_le (weight N (gap f P s t)) (h / 2)) [ yes y ↦ absurd (none s t p _ (gap_first s t (omega arith) (omega arith) y)) | no y ↦ omega arith ] in
        omega (
          arith,
          farm.few,
          far 1 2 (omega arith),
          far 1 3 (omega arith),
          far 2 3 (omega arith),
          gap_light farm 1 2 (omega arith) (omega arith),
          gap_light farm 1 3 (omega arith) (omega arith),
          gap_light farm 2 3 (omega arith) (omega arith),
          count_three 3 1 2 3 strays_of (omega arith) (omega arith) (omega arith) (omega arith) (omega arith) (omega arith),
        )

    module _ (s t : ℕ) (e : ℕ → ℕ) (x : Taken f N bound T s t e) where
      -- no other pair has a lighter difference that the first asking solves
      least_gap : (u v : ℕ) → Station 3 u → Station 3 v → u ≢ v → strays_of u + strays_of v ≤ h / 2 → weight N e ≤ strays_of u + strays_of v
      least_gap u v a b d k = elim (dec_lt u v) [
        | yes l ↦ let g = gap_light farm u v a b in omega (arith, x.least u v (gap f P u v) (omega arith) (gap_first u v a b (omega arith)))
        | no l ↦ let g = gap_light farm v u b a in omega (arith, x.least v u (gap f P v u) (omega arith) (gap_first v u b a (omega arith)))
      ]

      close : (k : ℕ) → Station 3 k → s ≢ k → t ≢ k → weight N e + weight N (gap f P s t) ≤ h
      close k c sk tk = elim (dec_le (weight N e + weight N (gap f P s t)) h) [
        | yes y ↦ y
        | no y ↦
            let p = x.pair in
            let z = count_three 3 s t k strays_of (omega arith) (omega arith) c (omega arith) sk tk in
            let g = gap_light farm s t (omega arith) (omega arith) in
            let few = farm.few in
            let light = x.solved.light in
            elim (dec_le (strays_of s) (strays_of t)) [
              | yes o ↦ absurd (omega (arith, least_gap s k (omega arith) c sk (omega arith)))
              | no o ↦ absurd (omega (arith, least_gap t k (omega arith) c tk (omega arith)))
            ]
      ]

      taken_true : (n : ℕ) → Page N n → e n ≡ gap f P s t n
      taken_true =
          let p = x.pair in
          gap_only farm T (h / 2) h s t (told s (omega arith)) (told t (omega arith)) e x.solved
          (inl (close (6 - s - t) (omega arith) (omega arith) (omega arith)))

      -- ── the second asking
      module _ (U : Table) (t1 : Tells f N P U (all_sums N bound) 1) (tk : Tells f N P U (all_sums N bound) (third s t)) where
        third_light : weight N (gap f P 1 (third s t)) ≤ bound
        third_light =
            let k = (third_is s t x.pair).0 in
            omega (
              arith,
              farm.few,
              gap_light farm 1 (third s t) (omega arith) (omega arith),
              count_two 3 1 (third s t) strays_of (omega arith) (omega arith) (omega arith),
            )

        pub second_some : (d : ℕ → ℕ) × FromFirst f N bound U (third s t) d
        second_some = (gap f P 1 (third s t), gap_solves farm U bound (all_sums N bound) 1 (third s t) t1 tk third_light)

        second_true : (d : ℕ → ℕ) → FromFirst f N bound U (third s t) d → (n : ℕ) → Page N n → d n ≡ gap f P 1 (third s t) n
        second_true d y =
            gap_only farm U bound (all_sums N bound) 1 (third s t) t1 tk d y
            (elim (all_sums_enough N bound) [ inl k ↦ inl (omega (arith, y.light, third_light)) | inr k ↦ inr k ])

        pub row_true : (own d : ℕ → ℕ) → ((n : ℕ) → Page N n → own n ≡ P 1 n) → FromFirst f N bound U (third s t) d → (r n : ℕ)
            → Station 3 r → Page N n → row_of_three f own s t e d r n ≡ P r n
        row_true own d is y r n a p = go (ℕ_discrete r 1) (ℕ_discrete r (third s t))
          where
            back : (s r : ℕ) → Station 3 r → (o x : ℕ) → o ≡ P s n → x ≡ gap f P s r n → f.minus o x ≡ P r n
            back s r a o x e g = ap₂ f.minus e g ∙ minus_back farm.field.laws (P s n) (P r n) (farm.codes r a n p)

            is_third : f.minus (own n) (d n) ≡ P (third s t) n
            is_third = back 1 (third s t) (omega (arith, (third_is s t x.pair).0)) (own n) (d n) (is n p) (second_true d y n p)

            is_s : cond (eqb s 1) (own n) (f.minus (own n) (d n)) ≡ P s n
            is_s = elim (third_is s t x.pair).1 [
              | inl s1 ↦ rw (eq-eqb s 1 s1) (is n p ∙ ap (λ s. P s n) (sym s1))
              | inr k ↦ rw (ne_eqb s 1 k.0) (is_third ∙ ap (λ s. P s n) (sym k.1))
            ]

            go : Dec (r ≡ 1) → Dec (r ≡ third s t) → row_of_three f own s t e d r n ≡ P r n
            go (yes r1) _ = rw (eq-eqb r 1 r1) (is n p ∙ ap (λ s. P s n) (sym r1))
            go (no r1) (yes rk) = rw (ne_eqb r 1 r1, eq-eqb r (third s t) rk) (is_third ∙ ap (λ s. P s n) (sym rk))
            go (no r1) (no rk) =
                let w = third_is s t x.pair in
                let q = x.pair in
                let rt : r ≡ t = omega (arith, w.0, w.1, w.2) in
                rw (ne_eqb r 1 r1, ne_eqb r (third s t) rk) (back s r a _ (e n) is_s (taken_true n p ∙ ap (λ t. gap f P s t n) (sym rt)))
