-- Rows that are filled give back every number that was told.
use mathlib.Core.Path.{◌≡◌, refl, sym, ap, ap₂, subst, ◌∙◌}
use mathlib.Core.Bool.{true, false, cond}
use mathlib.Core.Logic.{◌≢◌, ◌⊎◌, inl, inr}
use Prim.Native.Nat.{ℕ, ◌<◌, ◌≤◌, ◌+◌, ◌*◌, ◌/◌}
use native.Mathlib.Omega.{arith}
use native.Mathlib.Decide.{ℕ_discrete, dec_le, dec_lt}
use lib.Dec.{eqb}
use borrow.Author.Tests.{eq-eqb, ne_eqb, both_ways}
use Rattle.field.specs.Field.{Ops, Laws, Spread}
use Rattle.field.specs.Sums.{power_sum}
use Rattle.algebra.specs.Vectors.{Page}
use Rattle.scheme.specs.Farm.{Table, Station, Same}
use Rattle.scheme.specs.Askings.{first_sums, all_sums, Plain, Outcome, filled, asks}
use Rattle.scheme.specs.Pairs.{Pair, among}
use Rattle.scheme.specs.Differences.{Gaps, gap, Suspect, Solution, Unsolved, Differences}
use Rattle.scheme.specs.Four.{by_way, Known, none_suspect, three_suspect, one_suspect, Fails, Doubted, asked, beside, lead_of_others, FromLeads, row_from_first, gap_from_first, row_from_leads}
use Rattle.scheme.specs.Three.{Taken, third, FromFirst, row_of_three}
use Rattle.scheme.specs.Settling.{SettlesFour, SettlesThree}
use Rattle.scheme.specs.Weighing.{WeighsFour, WeighsThree, Weighs}
use Rattle.scheme.specs.Theorem.{Told, Alike, same_station}
use Rattle.scheme.specs.Yielding.{Coherent, FilledYields}
use Rattle.scheme.proofs.Codes.{power_sum_same, minus_self, minus_minus, minus_back, minus_flip, less_more, more_less, sum_difference, sum_plus, sum_zero}
use Rattle.scheme.proofs.Pairs.{decide_bool}
use Rattle.scheme.proofs.Others.{beside_is, lead_station, lead_other}
use Rattle.scheme.proofs.Known.{by_way_inside, by_way_outside, known_station, known_self}
use Rattle.scheme.proofs.Taken.{third_is}
use Rattle.scheme.proofs.AtMostOne.{one_outcome}
use Rattle.scheme.proofs.AnyOrder.{from_one}

-- a row that is own but for x has the sums c, where x has those of own less c
back : {f : Ops} (l : Laws f) (N : ℕ) (own x : ℕ → ℕ) (j a c : ℕ) → power_sum f N own j ≡ a → power_sum f N x j ≡ f.minus a c → c < f.size
    → power_sum f N (λ n. f.minus (own n) (x n)) j ≡ c
back {f} l N own x j a c e g h = sum_difference l N own x j ∙ ap₂ f.minus e g ∙ minus_back l a c h

-- D s t has the first sums of the difference of s and t
abbrev Yields : Ops → (N bound : ℕ) → Table → Gaps → ℕ → ℕ → Type 0
Yields f N bound T D s t = (j : ℕ) → Page bound j → power_sum f N (D s t) j ≡ gap f T s t j

module _ {f : Ops} (l : Laws f) {M N bound : ℕ} {T : Table} where
  yields_unless_suspect : (D : Gaps) → Differences f M N bound T D → (s t : ℕ) → Station M s → Station M t
      → (s < t → ¬ Suspect f M N bound T s t) → (t < s → ¬ Suspect f M N bound T t s) → Yields f N bound T D s t
  yields_unless_suspect D d s t a b x y j c = elim (dec_lt s t) [
    | yes k ↦ solved s t (omega arith) (x k) (d.pairs s t (omega arith))
    | no h ↦ elim (dec_lt t s) [
      | yes k ↦
          power_sum_same f N (D s t) (λ n. f.minus 0 (D t s n)) (λ n p. d.turned t s n (omega arith) p) j
          ∙ sum_difference l N (λ _. 0) (D t s) j
          ∙ ap₂ f.minus (sum_zero l N (λ _. 0) (λ n p. refl) j) (solved t s (omega arith) (y k) (d.pairs t s (omega arith)))
          ∙ minus_flip l (T t j) (T s j)
      | no g ↦
          let e : s ≡ t = omega arith in
          subst (λ t. power_sum f N (D s t) j ≡ gap f T s t j) e (sum_zero l N (D s s) (λ n p. d.same s n a p) j ∙ sym (minus_self l (T s j)))
    ]
  ]
    where
      solved : (s t : ℕ) → Pair M s t → ¬ Suspect f M N bound T s t → Solution f N bound T s t (D s t) ⊎ Unsolved f N bound T s t
          → power_sum f N (D s t) j ≡ gap f T s t j
      solved s t p k (inl z) = z.sums j c
      solved s t p k (inr none) = absurd (k (inl none))

  known_yields : {E : Gaps} {i : ℕ} → Known f M N bound T E i → (s t : ℕ) → Station M s → Station M t → s ≢ i → t ≢ i → Yields f N bound T E s t
  known_yields (none_suspect {D} d none) s t a b si ti j c =
      yields_unless_suspect D d s t a b (λ k. none s t (omega arith)) (λ k. none t s (omega arith)) j c
  known_yields (one_suspect {D} {i} d _ low) s t a b si ti j c =
      yields_unless_suspect D d s t a b (λ k o. omega (arith, low.1 s t (omega arith) o)) (λ k o. omega (arith, low.1 t s (omega arith) o)) j c
  known_yields (three_suspect {D} x y z m d tri low) s t a b si ti j c = way (decide_bool (among x y z s)) (decide_bool (among x y z t))
    where
      outside : (s t : ℕ) → Station M s → Station M t → (among x y z s ≡ false) ⊎ (among x y z t ≡ false) → power_sum f N (D s t) j ≡ gap f T s t j
      outside s t a b out =
          yields_unless_suspect D d s t a b
          (λ k o. let r = (tri.4 s t (omega arith)).0 o in clash out r.0 r.1)
          (λ k o. let r = (tri.4 t s (omega arith)).0 o in clash out r.1 r.0) j c
        where
          clash : (among x y z s ≡ false) ⊎ (among x y z t ≡ false) → among x y z s ≡ true → among x y z t ≡ true → ⊥
          clash (inl e) g h = both_ways _ e g
          clash (inr e) g h = both_ways _ e h

      out : (among x y z s ≡ false) ⊎ (among x y z t ≡ false) → power_sum f N (by_way f x y z m D s t) j ≡ gap f T s t j
      out o = power_sum_same f N _ _ (λ n p. by_way_outside f x y z m D s t n o) j ∙ outside s t a b o

      way : (among x y z s ≡ true) ⊎ (among x y z s ≡ false) → (among x y z t ≡ true) ⊎ (among x y z t ≡ false)
          → power_sum f N (by_way f x y z m D s t) j ≡ gap f T s t j
      way (inl e) (inl g) =
          power_sum_same f N _ (λ n. f.minus (D s m n) (D t m n)) (λ n p. by_way_inside f x y z m D s t n e g) j
          ∙ sum_difference l N (D s m) (D t m) j
          ∙ ap₂ f.minus (outside s m a low.0 (inr low.1)) (outside t m b low.0 (inr low.1))
          ∙ minus_minus l (T s j) (T t j) (T m j)
      way (inr e) _ = out (inl e)
      way (inl e) (inr g) = out (inr g)

  -- ── rows by the differences from row 1
  module _ (own : ℕ → ℕ) (own_first : (j : ℕ) → Page bound j → T 1 j ≡ power_sum f N own j)
      (first_codes : (s j : ℕ) → Station M s → Page bound j → T s j < f.size) where
    first_filled : {E : Gaps} → 2 ≤ M → Known f M N bound T E 0 → (t j : ℕ) → Station M t → Page bound j
        → power_sum f N (row_from_first f own E t) j ≡ T t j
    first_filled {E} two known t j a c = go (ℕ_discrete t 1)
      where
        go : Dec (t ≡ 1) → power_sum f N (row_from_first f own E t) j ≡ T t j
        go (yes t1) =
            power_sum_same f N _ own (λ n p. ap (λ b. cond b (own n) (f.minus (own n) (E 1 t n))) (eq-eqb t 1 t1)) j
            ∙ sym (own_first j c) ∙ ap (λ s. T s j) (sym t1)
        go (no t1) =
            power_sum_same f N _ (λ n. f.minus (own n) (E 1 t n)) (λ n p. ap (λ b. cond b (own n) (f.minus (own n) (E 1 t n))) (ne_eqb t 1 t1)) j
            ∙ back l N own (E 1 t) j (T 1 j) (T t j) (sym (own_first j c))
            (known_yields known 1 t (omega arith) a (omega arith) (omega arith) j c) (first_codes t j a c)

    -- ── rows by the leads of the others, where i is in doubt
    module _ (two : 2 ≤ M) {E : Gaps} {i : ℕ} (known : Known f M N bound T E i) (some : 1 ≤ i) (adds : ¬ Fails f M N E i) (U : Table) (e : ℕ → ℕ)
        (solves : FromLeads f M N bound U E i e) where
      abbrev lead : ℕ → ℕ
      lead n = lead_of_others M E i n

      lead_not : (n : ℕ) → Page N n → lead n ≢ i
      lead_not n p = let b = beside_is M i two in lead_other M E i n (beside i) b.0 b.1 (known_self known some (beside i) n b.0 p)

      abbrev row : ℕ → ℕ → ℕ
      row = row_from_leads f M own E i e

      row_other : (t : ℕ) → t ≢ 1 → (x : ℕ → ℕ) → ((n : ℕ) → Page N n → gap_from_first f E i e (lead n) t n ≡ x n)
          → (n : ℕ) → Page N n → row t n ≡ f.minus (own n) (x n)
      row_other t t1 x h n p =
          ap (λ b. cond b (own n) (f.minus (own n) (gap_from_first f E i e (lead n) t n))) (ne_eqb t 1 t1) ∙ ap (f.minus (own n)) (h n p)

      row_own : (t j : ℕ) → t ≡ 1 → power_sum f N (row t) j ≡ power_sum f N own j
      row_own t j t1 =
          power_sum_same f N (row t) own (λ n p. ap (λ b. cond b (own n) (f.minus (own n) (gap_from_first f E i e (lead n) t n))) (eq-eqb t 1 t1)) j

      -- the sums of a row other than 1, if those of x are known
      row_sum : (t j : ℕ) → t ≢ 1 → (x : ℕ → ℕ) → ((n : ℕ) → Page N n → gap_from_first f E i e (lead n) t n ≡ x n)
          → (a c : ℕ) → power_sum f N own j ≡ a → power_sum f N x j ≡ f.minus a c → c < f.size → power_sum f N (row t) j ≡ c
      row_sum t j t1 x h a c o g k =
          power_sum_same f N (row t) (λ n. f.minus (own n) (x n)) (row_other t t1 x h) j ∙ back l N own x j a c o g k

      -- i is not 1, and is compared with 1
      module _ (i1 : i ≢ 1) (U1 : (j : ℕ) → Page (all_sums N bound) j → U 1 j ≡ power_sum f N own j) where
        other_yields : (t j : ℕ) → Station M t → t ≢ 1 → t ≢ i → Page bound j → power_sum f N (row t) j ≡ T t j
        other_yields t j a t1 ti c =
            row_sum t j t1 (E 1 t)
            (λ n p. rw (ne_eqb i 1 i1, ne_eqb t i ti) refl)
            (T 1 j) (T t j) (sym (own_first j c)) (known_yields known 1 t (omega arith) a (λ z. i1 (sym z)) ti j c) (first_codes t j a c)

        doubted_yields : (t j : ℕ) → Station M t → t ≡ i → Page (all_sums N bound) j → U t j < f.size → power_sum f N (row t) j ≡ U t j
        doubted_yields t j a ti c small =
            let b : beside i ≡ 1 = ap (λ b. cond b 2 1) (ne_eqb i 1 i1) in
            row_sum t j (λ t1. i1 (sym ti ∙ t1)) (λ n. f.minus (E 1 (lead n) n) (e n))
            (λ n p. rw (ne_eqb i 1 i1, eq-eqb t i ti) refl)
            (U 1 j) (U t j) (sym (U1 j c))
            (sum_difference l N (λ n. E 1 (lead n) n) e j
            ∙ ap (f.minus (power_sum f N (λ n. E 1 (lead n) n) j))
            (solves.sums j c
            ∙ ap (λ b. f.plus (f.minus (U i j) (U b j)) (power_sum f N (λ n. E b (lead n) n) j)) b
            ∙ ap (λ s. f.plus (f.minus (U s j) (U 1 j)) (power_sum f N (λ n. E 1 (lead n) n) j)) (sym ti))
            ∙ less_more l (U t j) (U 1 j) (power_sum f N (λ n. E 1 (lead n) n) j))
            small

      -- i is 1, and is compared with 2
      module _ (i1 : i ≡ 1) (U1 : (j : ℕ) → Page (all_sums N bound) j → U 1 j ≡ power_sum f N own j) where
        first_yields : (t j v : ℕ) → Station M t → t ≢ 1 → Page (all_sums N bound) j → power_sum f N (E 2 t) j ≡ f.minus (U 2 j) v → v < f.size
            → power_sum f N (row t) j ≡ v
        first_yields t j v a t1 c is small =
            let b : beside i ≡ 2 = ap (λ b. cond b 2 1) (eq-eqb i 1 i1) in
            row_sum t j t1 (λ n. f.plus (e n) (f.minus (E 2 t n) (E 2 (lead n) n)))
            (λ n p. rw (eq-eqb i 1 i1)
            (ap (f.plus (e n)) (from_one l known adds n p some 2 (lead n) t (omega arith) (lead_station M E i n two, lead_not n p) (a, λ ti. t1 (ti ∙ i1)))))
            (U 1 j) v (sym (U1 j c))
            (sum_plus l N e (λ n. f.minus (E 2 t n) (E 2 (lead n) n)) j
            ∙ ap₂ f.plus
            (solves.sums j c
            ∙ ap (λ b. f.plus (f.minus (U i j) (U b j)) (power_sum f N (λ n. E b (lead n) n) j)) b
            ∙ ap (λ s. f.plus (f.minus (U s j) (U 2 j)) (power_sum f N (λ n. E 2 (lead n) n) j)) i1)
            (sum_difference l N (E 2 t) (λ n. E 2 (lead n) n) j
            ∙ ap (λ x. f.minus x (power_sum f N (λ n. E 2 (lead n) n) j)) is)
            ∙ more_less l (U 1 j) (U 2 j) v (power_sum f N (λ n. E 2 (lead n) n) j))
            small

-- ── three stations
module _ {f : Ops} (l : Laws f) {N bound : ℕ} {T : Table} (own : ℕ → ℕ)
    (own_first : (j : ℕ) → Page (first_sums 3 bound) j → T 1 j ≡ power_sum f N own j)
    (first_codes : (s j : ℕ) → Station 3 s → Page (first_sums 3 bound) j → T s j < f.size)
    (s t : ℕ) (e d : ℕ → ℕ) (taken : Taken f N bound T s t e) (V : Table) (solves : FromFirst f N bound V (third s t) d)
    (own_all : (j : ℕ) → Page (all_sums N bound) j → V 1 j ≡ power_sum f N own j) where
  abbrev row_three : Table
  row_three = row_of_three f own s t e d

  -- the sums of the third
  moved_yields : (j : ℕ) → Page (all_sums N bound) j → V (third s t) j < f.size → power_sum f N (λ n. f.minus (own n) (d n)) j ≡ V (third s t) j
  moved_yields j c small = back l N own d j (V 1 j) (V (third s t) j) (sym (own_all j c)) (solves.sums j c) small

  row_three_own : (j : ℕ) → power_sum f N (row_three 1) j ≡ power_sum f N own j
  row_three_own j = power_sum_same f N (row_three 1) own (λ n p. refl) j

  row_three_third : (n r : ℕ) → r ≡ third s t → row_three r n ≡ f.minus (own n) (d n)
  row_three_third n r e =
      let w = third_is s t taken.pair in
      rw (ne_eqb r 1 (omega (arith, w.0)), eq-eqb r (third s t) e) refl

  abbrev row_s : ℕ → ℕ
  row_s n = cond (eqb s 1) (own n) (f.minus (own n) (d n))

  row_three_other : (n r : ℕ) → r ≢ 1 → r ≢ third s t → row_three r n ≡ f.minus (row_s n) (e n)
  row_three_other n r r1 rk = rw (ne_eqb r 1 r1, ne_eqb r (third s t) rk) refl

  third_yields : (r j : ℕ) → r ≡ third s t → Page (all_sums N bound) j → V r j < f.size → power_sum f N (row_three r) j ≡ V r j
  third_yields r j is c small =
      power_sum_same f N (row_three r) (λ n. f.minus (own n) (d n)) (λ n p. row_three_third n r is) j
      ∙ moved_yields j c (subst (λ r. V r j < f.size) is small)
      ∙ ap (λ r. V r j) (sym is)

  -- what all sums are told is what first sums were
  module _ (j : ℕ) (c : Page (first_sums 3 bound) j) (g : Page (all_sums N bound) j) (again : V (third s t) j ≡ T (third s t) j) where
    third_code : V (third s t) j < f.size
    third_code = let w = (third_is s t taken.pair).0 in subst (λ x. x < f.size) (sym again) (first_codes (third s t) j (omega arith) c)

    row_s_yields : power_sum f N row_s j ≡ T s j
    row_s_yields = elim (third_is s t taken.pair).1 [
      | inl s1 ↦
          power_sum_same f N row_s own (λ n p. ap (λ b. cond b (own n) (f.minus (own n) (d n))) (eq-eqb s 1 s1)) j
          ∙ sym (own_first j c) ∙ ap (λ s. T s j) (sym s1)
      | inr k ↦
          power_sum_same f N row_s (λ n. f.minus (own n) (d n)) (λ n p. ap (λ b. cond b (own n) (f.minus (own n) (d n))) (ne_eqb s 1 k.0)) j
          ∙ moved_yields j g third_code ∙ again ∙ ap (λ s. T s j) (sym k.1)
    ]

    three_yields : (r : ℕ) → Station 3 r → power_sum f N (row_three r) j ≡ T r j
    three_yields r a = go (ℕ_discrete r 1) (ℕ_discrete r (third s t))
      where
        go : Dec (r ≡ 1) → Dec (r ≡ third s t) → power_sum f N (row_three r) j ≡ T r j
        go (yes r1) _ = ap (λ r. power_sum f N (row_three r) j) r1 ∙ row_three_own j ∙ sym (own_first j c) ∙ ap (λ r. T r j) (sym r1)
        go (no _) (yes rk) =
            third_yields r j rk g (subst (λ r. V r j < f.size) (sym rk) third_code)
            ∙ ap (λ r. V r j) rk ∙ again ∙ ap (λ r. T r j) (sym rk)
        go (no r1) (no rk) =
            let w = third_is s t taken.pair in
            let q = taken.pair in
            let rt : r ≡ t = omega (arith, w.0, w.1, w.2) in
            power_sum_same f N (row_three r) (λ n. f.minus (row_s n) (e n)) (λ n p. row_three_other n r r1 rk) j
            ∙ back l N row_s e j (T s j) (T r j) row_s_yields
            (taken.solved.sums j c ∙ ap (λ t. f.minus (T s j) (T t j)) (sym rt)) (first_codes r j a c)

-- ── what is told
-- rows that have the sums that are told
yielding : {f : Ops} {M N bound : ℕ} {T U : Table} {own : ℕ → ℕ} → Coherent f M N bound T U own → (Q R : Table) → 1 ≤ M → Same M N R Q
    → ((n : ℕ) → Page N n → Q 1 n ≡ own n)
    → ((s j : ℕ) → Station M s → Page (first_sums M bound) j → power_sum f N (Q s) j ≡ T s j)
    → ((k j : ℕ) → Weighs f M N bound T own (asks k) → Page (all_sums N bound) j → Station M k × (power_sum f N (Q k) j ≡ U k j))
    → Told f M N bound R T U own
yielding {f} {M} {N} {bound} {T} {U} {own} given Q R some same is first second = record {
  own_row = λ n p. sym (is_own n p);
  first = λ s j a c. sym (first s j a c) ∙ sym (sums s a j);
  own_sums = λ j c. given.own_all j c ∙ power_sum_same f N own (R 1) (λ n p. sym (is_own n p)) j;
  second = λ k j x c. let r = second k j x c in sym r.1 ∙ sym (sums k r.0 j);
}
  where
    is_own : (n : ℕ) → Page N n → R 1 n ≡ own n
    is_own n p = same 1 n (omega arith) p ∙ is n p

    sums : (s : ℕ) → Station M s → (j : ℕ) → power_sum f N (R s) j ≡ power_sum f N (Q s) j
    sums s a j = power_sum_same f N (R s) (Q s) (λ n p. same s n a p) j

pub alike_asked : {M N k : ℕ} (o : Outcome) → Alike M N o (asks k) → o ≡ asks k
alike_asked o same_station = refl

module _ {f : Ops} (l : Laws f) (spread : Spread f) {M N bound : ℕ} (le : N ≤ f.places) {T U : Table} {own : ℕ → ℕ} (given : Coherent f M N bound T U own) where
  -- who is asked is the outcome
  asked_one : (o : Outcome) → Weighs f M N bound T own o → (k : ℕ) → Weighs f M N bound T own (asks k) → o ≡ asks k
  asked_one o x k y = alike_asked o ((one_outcome f l spread M N bound le T U own o (asks k)).0 x y)

  -- weighing that fills rows asks nobody
  filled_asks : (R : Table) → Weighs f M N bound T own (filled R) → (k : ℕ) → ¬ Weighs f M N bound T own (asks k)
  filled_asks R x k y = let e = asked_one (filled R) x k y in cc

  asks_one : (j k : ℕ) → Weighs f M N bound T own (asks j) → Weighs f M N bound T own (asks k) → j ≡ k
  asks_one j k x y = let e = asked_one (asks j) x k y in cc

  -- ── four stations and more
  module _ (four : 4 ≤ M) (R : Table) where
    first_is : first_sums M bound ≡ bound
    first_is = ap (λ t. cond t ((3 * bound + 1) / 2) bound) (ne_eqb M 3 (omega arith))

    first_four : (j : ℕ) → Page bound j → T 1 j ≡ power_sum f N own j
    first_four j c = given.own_first j (omega (arith, first_is))

    codes_four : (s j : ℕ) → Station M s → Page bound j → T s j < f.size
    codes_four s j a c = given.first_codes s j a (omega (arith, first_is))

    weighed_four : WeighsFour f M N bound T own (filled R) → Told f M N bound R T U own
    weighed_four x =
        yielding given (row_from_first f own x.0) R (omega arith) x.3 (λ n p. refl)
        (λ s j a c. first_filled l own first_four codes_four (omega arith) x.1 s j a (omega (arith, first_is)))
        (λ k j y c. absurd (filled_asks R (inl (four, x)) k y))

    settled_four : first_sums M bound ≤ all_sums N bound → SettlesFour f M N bound T U own (filled R) → Told f M N bound R T U own
    settled_four all_told x = go (ℕ_discrete i 1)
      where
        E : Gaps
        E = x.0

        i : ℕ
        i = x.1

        doubt : Doubted f M N bound T E i
        doubt = x.3

        asking : Weighs f M N bound T own (asks (asked i))
        asking = inl (four, (E, i, doubt, refl))

        all_of : (j : ℕ) → Page (first_sums M bound) j → Page (all_sums N bound) j
        all_of j c = omega (arith, first_is)

        Q : Table
        Q = row_from_leads f M own E i x.2

        own_one : (s j : ℕ) → s ≡ 1 → Page (first_sums M bound) j → power_sum f N (Q s) j ≡ T s j
        own_one s j s1 c =
            row_own l own first_four codes_four (omega arith) doubt.known doubt.station doubt.adds U x.2 x.4 s j s1
            ∙ sym (given.own_first j c) ∙ ap (λ s. T s j) (sym s1)

        go : Dec (i ≡ 1) → Told f M N bound R T U own
        go (yes i1) =
            yielding given Q R (omega arith) x.5 (λ n p. refl)
            (λ s j a c. first s j a c (ℕ_discrete s 1))
            (λ k j y c. let e : 2 ≡ k = sym two ∙ asks_one (asked i) k asking y in
            (omega arith, subst (λ k. power_sum f N (Q k) j ≡ U k j) e (second j c)))
          where
            two : asked i ≡ 2
            two = ap (λ b. cond b 2 i) (eq-eqb i 1 i1)

            asking_two : Weighs f M N bound T own (asks 2)
            asking_two = subst (λ k. Weighs f M N bound T own (asks k)) two asking

            any : (s j v : ℕ) → Station M s → s ≢ 1 → Page (all_sums N bound) j → power_sum f N (E 2 s) j ≡ f.minus (U 2 j) v → v < f.size
                → power_sum f N (Q s) j ≡ v
            any = first_yields l own first_four codes_four (omega arith) doubt.known doubt.station doubt.adds U x.2 x.4 i1 given.own_all

            first : (s j : ℕ) → Station M s → Page (first_sums M bound) j → Dec (s ≡ 1) → power_sum f N (Q s) j ≡ T s j
            first s j a c (yes s1) = own_one s j s1 c
            first s j a c (no s1) =
                any s j (T s j) a s1 (all_of j c)
                (known_yields l doubt.known 2 s (omega arith) a (omega arith) (omega arith) j (omega (arith, first_is))
                ∙ ap (λ z. f.minus z (T s j)) (sym (given.told_again 2 j asking_two c)))
                (given.first_codes s j a c)

            second : (j : ℕ) → Page (all_sums N bound) j → power_sum f N (Q 2) j ≡ U 2 j
            second j c =
                any 2 j (U 2 j) (omega arith) (omega arith) c
                (sum_zero l N (E 2 2) (λ n p. known_self doubt.known doubt.station 2 n (omega arith) p) j ∙ sym (minus_self l (U 2 j)))
                (given.second_codes 2 j asking_two c)
        go (no i1) =
            yielding given Q R (omega arith) x.5 (λ n p. refl)
            (λ s j a c. first s j a c (ℕ_discrete s 1) (ℕ_discrete s i))
            (λ k j y c. let e : i ≡ k = sym same ∙ asks_one (asked i) k asking y in
            (subst (Station M) e here, subst (λ k. power_sum f N (Q k) j ≡ U k j) e (second i j refl c)))
          where
            same : asked i ≡ i
            same = ap (λ b. cond b 2 i) (ne_eqb i 1 i1)

            asking_it : Weighs f M N bound T own (asks i)
            asking_it = subst (λ k. Weighs f M N bound T own (asks k)) same asking

            here : Station M i
            here = known_station doubt.known doubt.station

            second : (s j : ℕ) → s ≡ i → Page (all_sums N bound) j → power_sum f N (Q s) j ≡ U s j
            second s j is c =
                doubted_yields l own first_four codes_four (omega arith) doubt.known doubt.station doubt.adds U x.2 x.4 i1 given.own_all s j
                (subst (Station M) (sym is) here) is c (subst (λ s. U s j < f.size) (sym is) (given.second_codes i j asking_it c))

            first : (s j : ℕ) → Station M s → Page (first_sums M bound) j → Dec (s ≡ 1) → Dec (s ≡ i) → power_sum f N (Q s) j ≡ T s j
            first s j a c (yes s1) _ = own_one s j s1 c
            first s j a c (no s1) (yes is) = second s j is (all_of j c) ∙ ap (λ s. U s j) is ∙ given.told_again i j asking_it c ∙ ap (λ s. T s j) (sym is)
            first s j a c (no s1) (no si) =
                other_yields l own first_four codes_four (omega arith) doubt.known doubt.station doubt.adds U x.2 x.4 i1 given.own_all s j a s1 si
                (omega (arith, first_is))

-- ── three stations
module _ {f : Ops} (l : Laws f) (spread : Spread f) {N bound : ℕ} (le : N ≤ f.places) {T U : Table} {own : ℕ → ℕ} (given : Coherent f 3 N bound T U own)
    (enough : first_sums 3 bound ≤ all_sums N bound) (R : Table) where
  weighed_three : WeighsThree f N bound T own (filled R) → Told f 3 N bound R T U own
  weighed_three w =
      let x = w.1 in
      yielding given (row_of_three f own x.0 x.1 x.2 x.3) R (omega arith) x.6 (λ n p. refl)
      (λ s j a c. three_yields l own given.own_first given.first_codes x.0 x.1 x.2 x.3 x.4 T x.5 (λ j g. given.own_first j (omega (arith, w.0))) j c (omega (arith, enough)) refl s a)
      (λ k j y c. absurd (filled_asks l spread le given R (inr (refl, w)) k y))

  settled_three : (first_sums 3 bound < all_sums N bound) → SettlesThree f N bound T U own (filled R) → Told f 3 N bound R T U own
  settled_three less x =
      yielding given (row_of_three f own x.0 x.1 x.2 x.3) R (omega arith) x.6 (λ n p. refl)
      (λ s j a c. three_yields l own given.own_first given.first_codes x.0 x.1 x.2 x.3 x.4 U x.5 given.own_all j c (omega (arith, enough))
      (given.told_again (third x.0 x.1) j asking c) s a)
      (λ k j y c.
      let e = asks_one l spread le given k (third x.0 x.1) y asking in
      let w = (third_is x.0 x.1 x.4.pair).0 in
      (omega arith, third_yields l own given.own_first given.first_codes x.0 x.1 x.2 x.3 x.4 U x.5 given.own_all k j e c (given.second_codes k j y c)))
    where
      asking : Weighs f 3 N bound T own (asks (third x.0 x.1))
      asking = inr (refl, (less, (x.0, x.1, x.2, x.4, refl)))

-- ── any farm
-- an asking that is not plain has first sums among all sums
pub enough : (M N bound : ℕ) → 3 ≤ M → ¬ Plain M N bound → first_sums M bound ≤ all_sums N bound
enough M N bound some not = elim (ℕ_discrete M 3) [
  | yes three ↦
      let e : first_sums M bound ≡ first_sums 3 bound = ap (λ M. first_sums M bound) three in
      elim (dec_lt N (first_sums 3 bound)) [ yes y ↦ absurd (not (inr (three, y))) | no y ↦ omega arith ]
  | no more ↦
      let e : first_sums M bound ≡ bound = ap (λ t. cond t ((3 * bound + 1) / 2) bound) (ne_eqb M 3 more) in
      elim (dec_le N bound) [ yes y ↦ absurd (not (inl (omega arith, y))) | no y ↦ omega arith ]
]

module _ {f : Ops} (l : Laws f) (spread : Spread f) {N bound : ℕ} (le : N ≤ f.places) {T U : Table} {own : ℕ → ℕ} (R : Table) where
  told_four : (M : ℕ) → 4 ≤ M → Coherent f M N bound T U own → ¬ Plain M N bound
      → WeighsFour f M N bound T own (filled R) ⊎ SettlesFour f M N bound T U own (filled R) → Told f M N bound R T U own
  told_four M four given not (inl x) = weighed_four l spread le given four R x
  told_four M four given not (inr x) = settled_four l spread le given four R (enough M N bound (omega arith) not) x

  told_three : Coherent f 3 N bound T U own → ¬ Plain 3 N bound
      → WeighsThree f N bound T own (filled R) ⊎ (((k : ℕ) × Weighs f 3 N bound T own (asks k)) × SettlesThree f N bound T U own (filled R))
      → Told f 3 N bound R T U own
  told_three given not (inl x) = weighed_three l spread le given (enough 3 N bound (omega arith) not) R x
  told_three given not (inr x) =
      settled_three l spread le given (enough 3 N bound (omega arith) not) R (elim x.0.1 [ inl y ↦ absurd (omega (arith, y.0)) | inr y ↦ y.1.0 ]) x.1

  told_any : (M : ℕ) → M ≡ 3 → Coherent f M N bound T U own → ¬ Plain M N bound
      → WeighsThree f N bound T own (filled R) ⊎ (((k : ℕ) × Weighs f M N bound T own (asks k)) × SettlesThree f N bound T U own (filled R))
      → Told f M N bound R T U own
  told_any M e =
      subst (λ M. Coherent f M N bound T U own → ¬ Plain M N bound
      → WeighsThree f N bound T own (filled R) ⊎ (((k : ℕ) × Weighs f M N bound T own (asks k)) × SettlesThree f N bound T U own (filled R))
      → Told f M N bound R T U own) (sym e) told_three

pub filled_yields : FilledYields
filled_yields f l spread M N bound le T U own given R (not, inl (inl x)) = told_four l spread le R M x.0 given not (inl x.1)
filled_yields f l spread M N bound le T U own given R (not, inl (inr x)) = told_any l spread le R M x.0 given not (inl x.1)
filled_yields f l spread M N bound le T U own given R (not, inr (asking, inl x)) = told_four l spread le R M x.0 given not (inr x.1)
filled_yields f l spread M N bound le T U own given R (not, inr (asking, inr x)) = told_any l spread le R M x.0 given not (inr (asking, x.1))
