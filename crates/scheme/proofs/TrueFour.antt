-- Four stations and more, with few stray copies: what is known is true, and so is what is settled.
use mathlib.Core.Path.{◌≡◌, refl, sym, ap, ap₂, ◌∙◌}
use mathlib.Core.Bool.{true, false}
use mathlib.Core.Logic.{◌≢◌, ◌⊎◌, inl, inr}
use Prim.Native.Nat.{ℕ, ◌<◌, ◌≤◌, ◌+◌, ◌/◌}
use native.Mathlib.Omega.{arith}
use native.Mathlib.Decide.{ℕ_discrete, dec_le}
use borrow.Author.Tests.{eq-eqb, ne_eqb}
use Rattle.field.specs.Field.{Ops}
use Rattle.field.specs.Sums.{power_sum}
use Rattle.algebra.specs.Vectors.{Page, Codes, weight}
use Rattle.algebra.proofs.Weights.{weight_same}
use Rattle.scheme.specs.Farm.{Table, Station, count, agree, stray, holders, Decided}
use Rattle.scheme.specs.Askings.{all_sums}
use Rattle.scheme.specs.Pairs.{Pair, Disjoint, among, TwoApart}
use Rattle.scheme.specs.Differences.{Gaps, gap, Solution, Unsolved, Suspect, Differences}
use Rattle.scheme.specs.Four.{by_way, Known, none_suspect, three_suspect, one_suspect, except, group_of_others, lead_of_others, Scattered, Fails, beside, FromLeads, sum_from_leads, row_from_first, row_from_leads}
use Rattle.scheme.proofs.Counts.{agree_same, agree_apart, agree_most, count_same, count_four, count_some, count_except, except_at, except_other, except_same, top_most}
use Rattle.scheme.proofs.Tables.{choice_strays}
use Rattle.scheme.proofs.Codes.{minus_self, minus_minus, plus_minuses, minus_back, minus_flip, minus_zero, weight_difference, sum_difference}
use Rattle.scheme.proofs.Pairs.{decide_bool}
use Rattle.scheme.proofs.Suspects.{AgreeUnlessSuspect, agree_by_pairs, one_weight, solved}
use Rattle.scheme.proofs.Others.{AgreeBut, lead_station, fails_same, scattered_same, from_leads_same, row_same}
use Rattle.scheme.proofs.Known.{by_way_inside, by_way_outside, agree_empty, agree_through, agree_triangle, known_station, known_self}
use Rattle.scheme.proofs.Taken.{second_one}
use Rattle.scheme.proofs.TrueGaps.{Farm, Tells, gap_light, gap_solves, gap_only}

module _ {f : Ops} {M N bound : ℕ} {P : Table} (farm : Farm f M N bound P) where
  -- two disjoint pairs differ on no more pages together than there are stray copies
  disjoint_light : (s t u v : ℕ) → Pair M s t → Pair M u v → Disjoint s t u v → weight N (gap f P s t) + weight N (gap f P u v) ≤ bound
  disjoint_light s t u v a b d =
      omega (
        arith,
        farm.few,
        gap_light farm s t (omega arith) (omega arith),
        gap_light farm u v (omega arith) (omega arith),
        count_four M s t u v (λ s. count N (stray M P s)) (omega arith) (omega arith) (omega arith) (omega arith)
            (omega arith) d.0 d.1 d.2 d.3 (omega arith),
      )

  -- true differences by way of any station are true
  by_way_true : (x y z m s t n : ℕ) → by_way f x y z m (gap f P) s t n ≡ gap f P s t n
  by_way_true x y z m s t n = way (decide_bool (among x y z s)) (decide_bool (among x y z t))
    where
      way : (among x y z s ≡ true) ⊎ (among x y z s ≡ false) → (among x y z t ≡ true) ⊎ (among x y z t ≡ false)
          → by_way f x y z m (gap f P) s t n ≡ gap f P s t n
      way (inl e) (inl g) = by_way_inside f x y z m (gap f P) s t n e g ∙ minus_minus farm.field.laws (P s n) (P t n) (P m n)
      way (inr e) _ = by_way_outside f x y z m (gap f P) s t n (inl e)
      way (inl e) (inr g) = by_way_outside f x y z m (gap f P) s t n (inr g)

  -- ── the first asking
  module _ (T : Table) (told : (s : ℕ) → Station M s → Tells f N P T bound s) where
    abbrev Ω : ℕ → ℕ → Type 0
    Ω = Suspect f M N bound T

    near_solved : (s t : ℕ) → Pair M s t → weight N (gap f P s t) ≤ bound / 2 → Solution f N bound T s t (gap f P s t)
    near_solved s t p = gap_solves farm T (bound / 2) bound s t (told s (omega arith)) (told t (omega arith))

    near_only : (s t : ℕ) → Pair M s t → (e : ℕ → ℕ) → Solution f N bound T s t e → weight N e + weight N (gap f P s t) ≤ bound → (n : ℕ)
        → Page N n → e n ≡ gap f P s t n
    near_only s t p e x k = gap_only farm T (bound / 2) bound s t (told s (omega arith)) (told t (omega arith)) e x (inl k)

    far_suspect : (s t : ℕ) → Pair M s t → bound / 2 < weight N (gap f P s t) → Ω s t
    far_suspect s t p far = elim (solved farm.field bound T s t) [
      | no none ↦ inl (λ e x. none (e, x))
      | yes r ↦ inr (
        r.0,
        r.1,
        λ u v q d.
            let k = disjoint_light s t u v p q d in
            elim (dec_le (weight N r.0 + weight N (gap f P s t)) bound) [
              | yes y ↦ absurd (omega (arith, r.1.light, weight_same N r.0 (gap f P s t) (near_only s t p r.0 r.1 y)))
              | no y ↦ (gap f P u v, near_solved u v q (omega arith), omega arith)
            ],
      )
    ]

    unsolved_far : (s t : ℕ) → Pair M s t → Unsolved f N bound T s t → bound / 2 < weight N (gap f P s t)
    unsolved_far s t p none = elim (dec_le (weight N (gap f P s t)) (bound / 2)) [ yes y ↦ absurd (none _ (near_solved s t p y)) | no y ↦ omega arith ]

    not_both : (s t u v : ℕ) → Pair M s t → Pair M u v → Disjoint s t u v → Disjoint u v s t → Ω s t → Ω u v → ⊥
    not_both s t u v p q d c (inl x) (inl y) = omega (arith, disjoint_light s t u v p q d, unsolved_far s t p x, unsolved_far u v q y)
    not_both s t u v p q d c (inl x) (inr y) = let r = y.2 s t p c in x r.0 r.1
    not_both s t u v p q d c (inr x) (inl y) = let r = x.2 u v q d in y r.0 r.1
    not_both s t u v p q d c (inr x) (inr y) =
        let r = x.2 u v q d in
        let k = y.2 s t p c in
        omega (
          arith,
          r.2,
          k.2,
          one_weight farm.field bound T u v r.0 y.0 r.1 y.1,
          one_weight farm.field bound T s t k.0 x.0 k.1 x.1,
        )

    pub never_apart : ¬ TwoApart M Ω
    never_apart w =
        let d = w.disjoint in
        not_both w.s w.t w.u w.v w.one.0 w.other.0 d (omega arith) w.one.1 w.other.1

    differences_true : (D : Gaps) → Differences f M N bound T D → AgreeUnlessSuspect f M N bound T D (gap f P)
    differences_true D d =
        agree_by_pairs f M N bound T D (gap f P) d
        (λ s t n p b. sym (minus_flip farm.field.laws (P s n) (P t n)))
        (λ s n a b. minus_self farm.field.laws (P s n))
        (λ s t n p b k. pair s t n p b k (dec_le (weight N (gap f P s t)) (bound / 2)) (d.pairs s t p))
      where
        pair : (s t n : ℕ) → Pair M s t → Page N n → ¬ Ω s t → Dec (weight N (gap f P s t) ≤ bound / 2)
            → Solution f N bound T s t (D s t) ⊎ Unsolved f N bound T s t → D s t n ≡ gap f P s t n
        pair s t n p b k (yes near) (inl x) = near_only s t p (D s t) x (omega (arith, x.light)) n b
        pair s t n p b k (yes near) (inr none) = absurd (k (inl none))
        pair s t n p b k (no far) _ = absurd (k (far_suspect s t p (omega arith)))

    pub known_true : {E : Gaps} {i : ℕ} → Known f M N bound T E i → AgreeBut M N i E (gap f P)
    known_true (none_suspect {D} d none) = agree_empty f M N bound T D (gap f P) (differences_true D d) none
    known_true (one_suspect {D} {i} d _ low) = agree_through f M N bound T D (gap f P) (differences_true D d) i low.1
    known_true (three_suspect {D} x y z m d tri low) =
        λ s t n a b si ti p. agree_triangle f M N bound T D (gap f P) (differences_true D d) x y z m tri low s t n a b si ti p ∙ by_way_true x y z m s t n

    pub never_fails : 2 ≤ M → {E : Gaps} {i : ℕ} → Known f M N bound T E i → ¬ Fails f M N E i
    never_fails two {E} {i} known x =
        let y = fails_same M N i two E (gap f P) (known_true known) f x in
        y.wrong (plus_minuses farm.field.laws (P y.s y.n) (P y.t y.n) (P y.u y.n))

  -- ── with station i in doubt
  module _ (two : 2 ≤ M) (i : ℕ) (here : Station M i) where
    agree_gap : (s t n : ℕ) → Station M s → Station M t → Page N n → agree (gap f P t s n) 0 ≡ agree (P t n) (P s n)
    agree_gap s t n a b p = elim (ℕ_discrete (P t n) (P s n)) [
      | yes e ↦ agree_same _ _ (ap (λ z. f.minus z (P s n)) e ∙ minus_self farm.field.laws (P s n)) ∙ sym (agree_same _ _ e)
      | no d ↦ agree_apart _ _ (λ z. d (minus_zero farm.field.laws (P t n) (P s n) (farm.codes t b n p) (farm.codes s a n p) z)) ∙ sym (agree_apart _ _ d)
    ]

    -- a majority has half of the stations other than i
    scattered_undecided : (n : ℕ) → Page N n → Scattered M (gap f P) i n → ¬ Decided M P n
    scattered_undecided n p low (v, most) =
        let r = count_some M (except i (λ t. agree (P t n) v)) (omega (arith, rest)) in
        held r.0 r.1 r.2 (ℕ_discrete r.0 i) (ℕ_discrete (P r.0 n) v)
      where
        rest : holders M P n v ≤ 1 + count M (except i (λ t. agree (P t n) v))
        rest = omega (arith, count_except M i (λ t. agree (P t n) v) here, agree_most (P i n) v)

        held : (s : ℕ) → Station M s → 1 ≤ except i (λ t. agree (P t n) v) s → Dec (s ≡ i) → Dec (P s n ≡ v) → ⊥
        held s b h (yes e) _ = omega (arith, ap (except i (λ t. agree (P t n) v)) e, except_at i (λ t. agree (P t n) v))
        held s b h (no d) (no k) = omega (arith, except_other i (λ t. agree (P t n) v) s d, agree_apart (P s n) v k)
        held s b h (no d) (yes e) =
            omega (
              arith,
              rest,
              top_most (group_of_others M (gap f P) i n) M s b,
              except_other i (λ s. count M (except i (λ t. agree (gap f P t s n) 0))) s d,
              count_same M (except i (λ t. agree (gap f P t s n) 0)) (except i (λ t. agree (P t n) (P s n)))
                  (λ t c. except_same i (λ t. agree (gap f P t s n) 0) (λ t. agree (P t n) (P s n)) t (λ _. agree_gap s t n b c p)),
              ap (λ x. count M (except i (λ t. agree (P t n) x))) e,
            )

    abbrev lead : ℕ → ℕ
    lead n = lead_of_others M (gap f P) i n

    -- the difference of i from the leads of the others
    abbrev from_lead : ℕ → ℕ
    from_lead n = gap f P i (lead n) n

    lead_codes : Codes f N (λ n. P (lead n) n)
    lead_codes n = farm.codes (lead n) (lead_station M (gap f P) i n two) n

    from_lead_light : weight N from_lead ≤ bound
    from_lead_light =
        omega (
          arith,
          farm.few,
          choice_strays M P N i lead here (λ n. lead_station M (gap f P) i n two),
          weight_difference farm.field.laws N (P i) (λ n. P (lead n) n) (farm.codes i here) lead_codes,
        )

    module _ (T : Table) (ti : Tells f N P T (all_sums N bound) i) (tb : Tells f N P T (all_sums N bound) (beside i)) where
      from_lead_solves : FromLeads f M N bound T (gap f P) i from_lead
      from_lead_solves = record {
        codes = λ n b. farm.field.laws.minus_code (P i n) (P (lead n) n);
        light = from_lead_light;
        sums = λ j c.
            sum_difference farm.field.laws N (P i) (λ n. P (lead n) n) j
            ∙ sym (ap₂ f.plus (ap₂ f.minus (ti j c) (tb j c)) (sum_difference farm.field.laws N (P (beside i)) (λ n. P (lead n) n) j)
            ∙ plus_minuses farm.field.laws (power_sum f N (P i) j) (power_sum f N (P (beside i)) j) (power_sum f N (λ n. P (lead n) n) j));
      }

    -- the rows that follow
    row_true : (own : ℕ → ℕ) → ((n : ℕ) → Page N n → own n ≡ P 1 n) → (t n : ℕ) → Station M t → Page N n
        → row_from_leads f M own (gap f P) i from_lead t n ≡ P t n
    row_true own is t n a p = go (ℕ_discrete t 1) (ℕ_discrete i 1) (ℕ_discrete t i)
      where
        back : (x : ℕ) → x ≡ f.minus (P 1 n) (P t n) → f.minus (own n) x ≡ P t n
        back x e = ap₂ f.minus (is n p) e ∙ minus_back farm.field.laws (P 1 n) (P t n) (farm.codes t a n p)

        go : Dec (t ≡ 1) → Dec (i ≡ 1) → Dec (t ≡ i) → row_from_leads f M own (gap f P) i from_lead t n ≡ P t n
        go (yes t1) _ _ = rw (eq-eqb t 1 t1) (is n p ∙ ap (λ s. P s n) (sym t1))
        go (no t1) (yes i1) _ =
            rw (ne_eqb t 1 t1, eq-eqb i 1 i1)
            (back _ (plus_minuses farm.field.laws (P i n) (P (lead n) n) (P t n) ∙ ap (λ s. f.minus (P s n) (P t n)) i1))
        go (no t1) (no i1) (yes ti) =
            rw (ne_eqb t 1 t1, ne_eqb i 1 i1, eq-eqb t i ti)
            (back _ (minus_minus farm.field.laws (P 1 n) (P i n) (P (lead n) n) ∙ ap (λ s. f.minus (P 1 n) (P s n)) (sym ti)))
        go (no t1) (no i1) (no ti) = rw (ne_eqb t 1 t1, ne_eqb i 1 i1, ne_eqb t i ti) (back _ refl)

  -- ── what is told decides
  module _ (two : 2 ≤ M) (T : Table) (told : (s : ℕ) → Station M s → Tells f N P T bound s) (own : ℕ → ℕ) (is : (n : ℕ) → Page N n → own n ≡ P 1 n) where
    pub filled_true : (E : Gaps) → Known f M N bound T E 0 → (t n : ℕ) → Station M t → Page N n → row_from_first f own E t n ≡ P t n
    filled_true E known t n a p = go (ℕ_discrete t 1)
      where
        row : f.minus (own n) (E 1 t n) ≡ P t n
        row =
            ap₂ f.minus (is n p) (known_true T told known 1 t n (omega arith) a (omega arith) (omega arith) p)
            ∙ minus_back farm.field.laws (P 1 n) (P t n) (farm.codes t a n p)

        go : Dec (t ≡ 1) → row_from_first f own E t n ≡ P t n
        go (yes first) = rw (eq-eqb t 1 first) (is n p ∙ ap (λ s. P s n) (sym first))
        go (no other) = rw (ne_eqb t 1 other) row

    module _ (E : Gaps) (i : ℕ) (known : Known f M N bound T E i) (some : 1 ≤ i) where
      here : Station M i
      here = known_station known some

      pub scattered_true : (n : ℕ) → Page N n → Scattered M E i n → ¬ Decided M P n
      scattered_true n p x = scattered_undecided two i here n p (scattered_same M N i two E (gap f P) (known_true T told known) n p x)

      module _ (U : Table) (ti : Tells f N P U (all_sums N bound) i) (tb : Tells f N P U (all_sums N bound) (beside i)) where
        pub settled_some : (e : ℕ → ℕ) × FromLeads f M N bound U E i e
        settled_some = (
          from_lead two i here,
          from_leads_same M N i two (gap f P) E (λ s t n a b si ti p. sym (known_true T told known s t n a b si ti p))
              (λ s n a _ p. known_self known some s n a p) f bound U (from_lead two i here) (from_lead_solves two i here U ti tb),
        )

        pub settled_true : (e : ℕ → ℕ) → FromLeads f M N bound U E i e → (t n : ℕ) → Station M t → Page N n → row_from_leads f M own E i e t n ≡ P t n
        settled_true e x t n a p =
            row_same M N i two E (gap f P) (known_true T told known) self f own e (from_lead two i here)
            (second_one farm.field bound (sum_from_leads f M N bound U (gap f P) i) e (from_lead two i here)
            (from_leads_same M N i two E (gap f P) (known_true T told known) self f bound U e x) (from_lead_solves two i here U ti tb)) t n a p
            ∙ row_true two i here own is t n a p
          where
            self : (s n : ℕ) → Station M s → s ≢ i → Page N n → gap f P s s n ≡ 0
            self s n _ _ _ = minus_self farm.field.laws (P s n)
