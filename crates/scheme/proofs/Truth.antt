-- With few enough stray copies the rules find the truth.
use mathlib.Core.Path.{◌≡◌, refl, sym, ap, subst, ◌∙◌}
use mathlib.Core.Bool.{cond}
use mathlib.Core.Logic.{◌⊎◌, inl, inr}
use Prim.Native.Nat.{ℕ, ◌<◌, ◌≤◌, ◌+◌, ◌*◌, ◌/◌}
use native.Mathlib.Omega.{arith}
use native.Mathlib.Decide.{ℕ_discrete, dec_le, dec_lt}
use borrow.Author.Tests.{eq-eqb, ne_eqb}
use Rattle.field.specs.Field.{Ops, Laws, Spread}
use Rattle.algebra.specs.Vectors.{Page}
use Rattle.scheme.specs.Farm.{Table, Station, Same, Decided}
use Rattle.scheme.specs.Askings.{first_sums, all_sums, Plain, Outcome, over, split, filled, asks}
use Rattle.scheme.specs.Differences.{Gaps}
use Rattle.scheme.specs.Four.{Doubted, asked, beside}
use Rattle.scheme.specs.Three.{Taken, third}
use Rattle.scheme.specs.Settling.{SettlesThree, Settles}
use Rattle.scheme.specs.Weighing.{Weighs}
use Rattle.scheme.specs.Ending.{Concludes, Comes, Fills}
use Rattle.scheme.specs.Theorem.{Told, Finds, Right}
use Rattle.scheme.proofs.Tables.{closing, decided_same, bad_same}
use Rattle.scheme.proofs.Taken.{third_is}
use Rattle.scheme.proofs.AtLeastOne.{some_outcome}
use Rattle.scheme.proofs.TrueGaps.{Farm, Tells}
use Rattle.scheme.proofs.TrueFour.{never_apart, never_fails, filled_true, scattered_true, settled_some, settled_true}
use Rattle.scheme.proofs.TrueThree.{some_solved, second_some, row_true}

-- what weighing and settling find of the table P is true
record Weighed (f : Ops) (M N bound : ℕ) (P T U : Table) (own : ℕ → ℕ) : Type 0 where
  never_over : ¬ Weighs f M N bound T own over
  split_true : (n : ℕ) → Weighs f M N bound T own (split n) → Page N n × (¬ Decided M P n)
  rows_true : (R : Table) → Weighs f M N bound T own (filled R) → Same M N R P
  settled_never_over : (k : ℕ) → Weighs f M N bound T own (asks k) → ¬ Settles f M N bound T U own over
  settled_rows_true : (k : ℕ) → Weighs f M N bound T own (asks k) → (R : Table) → Settles f M N bound T U own (filled R) → Same M N R P

-- ── four stations and more
module _ {f : Ops} {M N bound : ℕ} {P T U : Table} {own : ℕ → ℕ} (four : 4 ≤ M) (farm : Farm f M N bound P) (told : Told f M N bound P T U own) where
  first_told : (s : ℕ) → Station M s → Tells f N P T bound s
  first_told s a j b =
      let h : first_sums M bound ≡ bound = ap (λ t. cond t ((3 * bound + 1) / 2) bound) (ne_eqb M 3 (omega arith)) in
      told.first s j a (omega arith)

  -- i is 1 or the one asked, and is compared with the other of the two
  again_told : (E : Gaps) (i : ℕ) → Doubted f M N bound T E i → Tells f N P U (all_sums N bound) i × Tells f N P U (all_sums N bound) (beside i)
  again_told E i x = elim (ℕ_discrete i 1) [
    | yes e ↦
        let b : beside i ≡ asked i = ap (λ t. cond t 2 1) (eq-eqb i 1 e) ∙ sym (ap (λ t. cond t 2 i) (eq-eqb i 1 e)) in
        (subst (Tells f N P U (all_sums N bound)) (sym e) told.own_sums, subst (Tells f N P U (all_sums N bound)) (sym b) second)
    | no d ↦
        let b : beside i ≡ 1 = ap (λ t. cond t 2 1) (ne_eqb i 1 d) in
        let a : asked i ≡ i = ap (λ t. cond t 2 i) (ne_eqb i 1 d) in
        (subst (Tells f N P U (all_sums N bound)) a second, subst (Tells f N P U (all_sums N bound)) (sym b) told.own_sums)
  ]
    where
      second : Tells f N P U (all_sums N bound) (asked i)
      second j = told.second (asked i) j (inl (four, (E, i, x, refl)))

  weighed_four : Weighed f M N bound P T U own
  weighed_four = record {
    never_over = λ x. elim x [
      | inl y ↦ elim y.1 [
        | inl w ↦ never_apart farm T first_told w
        | inr w ↦ never_fails farm T first_told (omega arith) w.2 w.3
      ]
      | inr y ↦ omega (arith, y.0)
    ];
    split_true = λ n x. elim x [
      | inl y ↦
          let w = y.1 in
          (w.5.0, scattered_true farm (omega arith) T first_told own told.own_row w.0 w.1 w.2 w.3 n w.5.0 w.5.1)
      | inr y ↦ absurd y.1
    ];
    rows_true = λ R x s n a p. elim x [
      | inl y ↦ let w = y.1 in w.3 s n a p ∙ filled_true farm (omega arith) T first_told own told.own_row w.0 w.1 s n a p
      | inr y ↦ absurd (omega (arith, y.0))
    ];
    settled_never_over = λ k _ x. elim x [
      | inl y ↦
          let w = y.1 in
          let t = again_told w.0 w.1 w.2 in
          let r = settled_some farm (omega arith) T first_told own told.own_row w.0 w.1 w.2.known w.2.station U t.0 t.1 in
          w.3 r.0 r.1
      | inr y ↦ omega (arith, y.0)
    ];
    settled_rows_true = λ k _ R x s n a p. elim x [
      | inl y ↦
          let w = y.1 in
          let t = again_told w.0 w.1 w.3 in
          w.5 s n a p
          ∙ settled_true farm (omega arith) T first_told own told.own_row w.0 w.1 w.3.known w.3.station U t.0 t.1 w.2 w.4 s n a p
      | inr y ↦ absurd (omega (arith, y.0))
    ];
  }

-- ── three stations
module _ {f : Ops} {N bound : ℕ} {P T U : Table} {own : ℕ → ℕ} (farm : Farm f 3 N bound P) (told : Told f 3 N bound P T U own) where
  first_told_three : (s : ℕ) → Station 3 s → Tells f N P T (first_sums 3 bound) s
  first_told_three s a j = told.first s j a

  -- whichever sums settle, if they are those of row 1 and of the third
  module _ (V : Table) (own_told : Tells f N P V (all_sums N bound) 1)
      (third_told : (s t : ℕ) (e : ℕ → ℕ) → Taken f N bound T s t e → Tells f N P V (all_sums N bound) (third s t)) where
    never_over_three : ¬ SettlesThree f N bound T V own over
    never_over_three x =
        let r = second_some farm T first_told_three x.0 x.1 x.2 x.3 V own_told (third_told x.0 x.1 x.2 x.3) in
        x.4 r.0 r.1

    rows_true_three : (R : Table) → SettlesThree f N bound T V own (filled R) → Same 3 N R P
    rows_true_three R x s n a p =
        x.6 s n a p
        ∙ row_true farm T first_told_three x.0 x.1 x.2 x.4 V own_told (third_told x.0 x.1 x.2 x.4) own x.3 told.own_row x.5 s n a p

  -- without more sums to ask for the first ones are all
  weighing_told : all_sums N bound ≤ first_sums 3 bound → (s : ℕ) → Station 3 s → Tells f N P T (all_sums N bound) s
  weighing_told k s a j b = told.first s j a (omega arith)

  third_station : (s t : ℕ) (e : ℕ → ℕ) → Taken f N bound T s t e → Station 3 (third s t)
  third_station s t e x = let k = (third_is s t x.pair).0 in omega arith

  weighed_three : Weighed f 3 N bound P T U own
  weighed_three = record {
    never_over = λ x. elim x [
      | inl y ↦ omega (arith, y.0)
      | inr y ↦ elim y.1 [
        | inl none ↦ some_solved farm T first_told_three none
        | inr w ↦ never_over_three T (weighing_told w.0 1 (omega arith)) (λ s t e x. weighing_told w.0 (third s t) (third_station s t e x)) w.1
      ]
    ];
    split_true = λ n x. elim x [ inl y ↦ absurd (omega (arith, y.0)) | inr y ↦ absurd y.1 ];
    rows_true = λ R x. elim x [
      | inl y ↦ absurd (omega (arith, y.0))
      | inr y ↦
          let w = y.1 in
          rows_true_three T (weighing_told w.0 1 (omega arith)) (λ s t e x. weighing_told w.0 (third s t) (third_station s t e x)) R w.1
    ];
    settled_never_over = λ k asked x. elim x [
      | inl y ↦ omega (arith, y.0)
      | inr y ↦ never_over_three U told.own_sums (settling_told k asked) y.1
    ];
    settled_rows_true = λ k asked R x. elim x [
      | inl y ↦ absurd (omega (arith, y.0))
      | inr y ↦ rows_true_three U told.own_sums (settling_told k asked) R y.1
    ];
  }
    where
      settling_told : (k : ℕ) → Weighs f 3 N bound T own (asks k) → (s t : ℕ) (e : ℕ → ℕ) → Taken f N bound T s t e
          → Tells f N P U (all_sums N bound) (third s t)
      settling_told k (inl y) s t e x = absurd (omega (arith, y.0))
      settling_told k (inr y) s t e x = λ j. told.second (third s t) j (inr (refl, (y.1.0, (s, t, e, x, refl))))

-- ── the whole
decide_plain : (M N bound : ℕ) → Dec (Plain M N bound)
decide_plain M N bound = go (dec_le 4 M) (dec_le N bound) (ℕ_discrete M 3) (dec_lt N (first_sums 3 bound))
  where
    go : Dec (4 ≤ M) → Dec (N ≤ bound) → Dec (M ≡ 3) → Dec (N < first_sums 3 bound) → Dec (Plain M N bound)
    go (yes a) (yes b) _ _ = yes (inl (a, b))
    go (yes a) (no b) _ _ = no (λ x. elim x [ inl y ↦ b y.1 | inr y ↦ omega (arith, y.0) ])
    go (no a) _ (yes c) (yes d) = yes (inr (c, d))
    go (no a) _ (yes c) (no d) = no (λ x. elim x [ inl y ↦ a y.0 | inr y ↦ d y.1 ])
    go (no a) _ (no c) _ = no (λ x. elim x [ inl y ↦ a y.0 | inr y ↦ c y.0 ])

module _ (f : Ops) (M N bound : ℕ) (P T U : Table) (own : ℕ → ℕ) where
  -- rows that are the table are split and reported as it is
  finds : (¬ Comes f M N bound T U own over) → ((R : Table) → Fills f M N bound T U own P R → Same M N R P)
      → ((n : ℕ) → Comes f M N bound T U own (split n) → Page N n × (¬ Decided M P n))
      → ((n : ℕ) × Comes f M N bound T U own (split n)) ⊎ ((R : Table) × Fills f M N bound T U own P R)
      → Finds f M N bound P T U own
  finds never rows splits ends = record {
    never_over = never;
    rows_true = rows;
    split_true = λ n x. elim x [
      | inl y ↦ splits n y
      | inr y ↦ let low = y.2 in (low.0, λ d. low.1 (decided_same M N P y.0 (back y.0 y.1) n low.0 d))
    ];
    report_true = λ R x. (
      (λ n p. decided_same M N R P (rows R x.0) n p (x.1 n p)),
      (λ s n a p. (bad_same M N P R (back R x.0) n p s a, bad_same M N R P (rows R x.0) n p s a)),
    );
    ends = elim ends [
      | inl x ↦ inl (x.0, inl x.1)
      | inr x ↦ elim (closing M x.0 N) [ inl y ↦ inl (y.0, inr (x.0, x.1, y.1)) | inr y ↦ inr (x.0, (x.1, y)) ]
    ];
  }
    where
      back : (R : Table) → Fills f M N bound T U own P R → Same M N P R
      back R x s n a p = sym (rows R x s n a p)

  finds_plain : Plain M N bound → Finds f M N bound P T U own
  finds_plain plain =
      finds (λ x. x.0 plain) (λ R x. elim x [ inl y ↦ y.1 | inr y ↦ absurd (y.0 plain) ]) (λ n x. absurd (x.0 plain)) (inr (P, inl (plain, λ s n a p. refl)))

  finds_weighed : Laws f → Spread f → 3 ≤ M → N ≤ f.places → ¬ Plain M N bound → Weighed f M N bound P T U own → Finds f M N bound P T U own
  finds_weighed l spread three le not w =
      finds
      (λ x. elim x.1 [ inl y ↦ w.never_over y | inr y ↦ w.settled_never_over y.0.0 y.0.1 y.1 ])
      (λ R x. elim x [ inl y ↦ y.1 | inr y ↦ elim y.1 [ inl z ↦ w.rows_true R z | inr z ↦ w.settled_rows_true z.0.0 z.0.1 R z.1 ] ])
      (λ n x. elim x.1 [ inl y ↦ w.split_true n y | inr y ↦ absurd (elim y.1 [ inl z ↦ z.1 | inr z ↦ z.1 ]) ])
      (from some.0.0 some.0.1)
    where
      some : ((o : Outcome) × Weighs f M N bound T own o)
          × ((k : ℕ) → Weighs f M N bound T own (asks k) → (2 ≤ k) × (k ≤ M) × ((o : Outcome) × Settles f M N bound T U own o))
          × ((o : Outcome) × Concludes (Weighs f M N bound T own) (Settles f M N bound T U own) o)
      some = some_outcome f l spread M N bound three le T U own

      settled : (k : ℕ) → Weighs f M N bound T own (asks k) → (o : Outcome) → Settles f M N bound T U own o → (R : Table) × Fills f M N bound T U own P R
      settled k x over y = absurd (w.settled_never_over k x y)
      settled k x (filled R) y = (R, inr (not, inr ((k, x), y)))
      settled k x (split n) y = absurd (elim y [ inl z ↦ z.1 | inr z ↦ z.1 ])
      settled k x (asks j) y = absurd (elim y [ inl z ↦ z.1 | inr z ↦ z.1 ])

      from : (o : Outcome) → Weighs f M N bound T own o → ((n : ℕ) × Comes f M N bound T U own (split n)) ⊎ ((R : Table) × Fills f M N bound T U own P R)
      from over x = absurd (w.never_over x)
      from (split n) x = inl (n, (not, inl x))
      from (filled R) x = inr (R, inr (not, inl x))
      from (asks k) x = let r = (some.1 k x).2 in inr (settled k x r.0 r.1)

pub right : Right
right f l spread M N bound three le P T U own codes given = elim (decide_plain M N bound) [
  | yes plain ↦ finds_plain f M N bound P T U own plain
  | no not ↦ elim given [
    | inl plain ↦ absurd (not plain)
    | inr x ↦
        finds_weighed f M N bound P T U own l spread three le not
        (weighed (record { field = record { laws = l; spread = spread; places = le }; codes = codes; few = x.0 }) x.1 (dec_le 4 M))
  ]
]
  where
    weighed : Farm f M N bound P → Told f M N bound P T U own → Dec (4 ≤ M) → Weighed f M N bound P T U own
    weighed farm told (yes four) = weighed_four four farm told
    weighed farm told (no few) =
        let e : 3 ≡ M = omega arith in
        subst (λ M. Farm f M N bound P → Told f M N bound P T U own → Weighed f M N bound P T U own) e (λ farm told. weighed_three farm told) farm told
