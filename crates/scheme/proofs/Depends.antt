-- The rules depend only on what is told where they look: on the first sums and on row 1, and then on all sums of row 1 and of the station asked again.
use mathlib.Core.Path.{◌≡◌, refl, sym, ap, ap₂, subst, ◌∙◌}
use mathlib.Core.Bool.{Bool, true, false, cond}
use mathlib.Core.Logic.{inl, inr}
use Prim.Native.Nat.{ℕ, ◌<◌, ◌≤◌, ◌+◌, ◌*◌, ◌/◌}
use native.Mathlib.Omega.{arith}
use lib.Dec.{eqb}
use borrow.Author.Tests.{eqb-true, ne_eqb}
use Rattle.field.specs.Field.{Ops}
use Rattle.field.specs.Sums.{power_sum}
use Rattle.algebra.specs.Vectors.{Page, Solves}
use Rattle.scheme.specs.Farm.{Table, Station, Same}
use Rattle.scheme.specs.Askings.{first_sums, all_sums, Outcome, over, split, filled, asks}
use Rattle.scheme.specs.Pairs.{Pair}
use Rattle.scheme.specs.Differences.{Gaps, gap, Solution, Unsolved, Suspect, Differences}
use Rattle.scheme.specs.Four.{Known, none_suspect, three_suspect, one_suspect, lead_of_others, Doubted, asked, beside, sum_from_leads, row_from_first, row_from_leads}
use Rattle.scheme.specs.Three.{Taken, third, row_of_three}
use Rattle.scheme.specs.Settling.{SettlesFour, SettlesThree, Settles}
use Rattle.scheme.specs.Weighing.{WeighsFour, WeighsThree, Weighs}
use Rattle.scheme.proofs.Taken.{third_is}

-- T and T' tell the same sums 1 .. h of row s
abbrev TellSame : (h : ℕ) (T T' : Table) → ℕ → Type 0
TellSame h T T' s = (j : ℕ) → Page h j → T s j ≡ T' s j

-- the same of the difference of rows s and t
abbrev SameGap : Ops → (h : ℕ) (T T' : Table) → ℕ → ℕ → Type 0
SameGap f h T T' s t = (j : ℕ) → Page h j → gap f T s t j ≡ gap f T' s t j

abbrev SameGaps : Ops → (M h : ℕ) (T T' : Table) → Type 0
SameGaps f M h T T' = (s t : ℕ) → Pair M s t → SameGap f h T T' s t

same_gap : (f : Ops) (h : ℕ) (T T' : Table) (s t : ℕ) → TellSame h T T' s → TellSame h T T' t → SameGap f h T T' s t
same_gap f h T T' s t a b j p = ap₂ f.minus (a j p) (b j p)

same_gaps : (f : Ops) (M h : ℕ) (T T' : Table) → Same M h T T' → SameGaps f M h T T'
same_gaps f M h T T' same s t p = same_gap f h T T' s t (λ j. same s j (omega arith)) (λ j. same t j (omega arith))

solves_depends : {f : Ops} {N t h : ℕ} {s s' e : ℕ → ℕ} → ((j : ℕ) → Page h j → s j ≡ s' j) → Solves f N t h s e → Solves f N t h s' e
solves_depends same x = record { codes = x.codes; light = x.light; sums = λ j b. x.sums j b ∙ same j b }

-- ── suspect pairs
module _ (f : Ops) (M N h : ℕ) (T T' : Table) (same : SameGaps f M h T T') where
  solution_depends : (s t : ℕ) (e : ℕ → ℕ) → Pair M s t → Solution f N h T s t e → Solution f N h T' s t e
  solution_depends s t e p = solves_depends (same s t p)

  unsolved_depends : (s t : ℕ) → Pair M s t → Unsolved f N h T s t → Unsolved f N h T' s t
  unsolved_depends s t p none e x = none e (solves_depends (λ j b. sym (same s t p j b)) x)

  suspect_depends : (s t : ℕ) → Pair M s t → Suspect f M N h T s t → Suspect f M N h T' s t
  suspect_depends s t p (inl none) = inl (unsolved_depends s t p none)
  suspect_depends s t p (inr x) = inr (
    x.0,
    solution_depends s t x.0 p x.1,
    λ u v q d. let r = x.2 u v q d in (r.0, solution_depends u v r.0 q r.1, r.2),
  )

module _ (f : Ops) (N bound : ℕ) (T T' : Table) (own own' : ℕ → ℕ) (row : (n : ℕ) → Page N n → own n ≡ own' n) where
  -- ── four stations and more
  module _ (M : ℕ) (same : SameGaps f M bound T T') where
    there : (s t : ℕ) → Pair M s t → Suspect f M N bound T s t → Suspect f M N bound T' s t
    there = suspect_depends f M N bound T T' same

    back : (s t : ℕ) → Pair M s t → Suspect f M N bound T' s t → Suspect f M N bound T s t
    back = suspect_depends f M N bound T' T (λ s t p j b. sym (same s t p j b))

    differences_depends : {D : Gaps} → Differences f M N bound T D → Differences f M N bound T' D
    differences_depends {D} d = record {
      pairs = λ s t p. elim (d.pairs s t p) [
        | inl x ↦ inl (solution_depends f M N bound T T' same s t (D s t) p x)
        | inr none ↦ inr (unsolved_depends f M N bound T T' same s t p none)
      ];
      turned = d.turned;
      same = d.same;
    }

    known_depends : {E : Gaps} {i : ℕ} → Known f M N bound T E i → Known f M N bound T' E i
    known_depends (none_suspect d none) = none_suspect (differences_depends d) (λ s t p x. none s t p (back s t p x))
    known_depends (three_suspect x y z m d tri low) =
        three_suspect x y z m (differences_depends d)
        (tri.0, tri.1, tri.2, tri.3, λ s t p. ((λ o. (tri.4 s t p).0 (back s t p o)), (λ a. there s t p ((tri.4 s t p).1 a))))
        low
    known_depends (one_suspect d some low) =
        one_suspect (differences_depends d) (λ none. some (λ s t p x. none s t p (there s t p x)))
        (low.0, λ s t p x. low.1 s t p (back s t p x), λ m a b all. low.2 m a b (λ s t p x. all s t p (there s t p x)))

    doubted_depends : {E : Gaps} {i : ℕ} → Doubted f M N bound T E i → Doubted f M N bound T' E i
    doubted_depends x = record { known = known_depends x.known; station = x.station; adds = x.adds; gathered = x.gathered }

    weighs_four_depends : (o : Outcome) → WeighsFour f M N bound T own o → WeighsFour f M N bound T' own' o
    weighs_four_depends over (inl w) = inl (record {
      s = w.s;
      t = w.t;
      u = w.u;
      v = w.v;
      one = (w.one.0, there w.s w.t w.one.0 w.one.1);
      other = (w.other.0, there w.u w.v w.other.0 w.other.1);
      disjoint = w.disjoint;
    })
    weighs_four_depends over (inr x) = inr (x.0, x.1, known_depends x.2, x.3)
    weighs_four_depends (split n) x = (x.0, x.1, known_depends x.2, x.3, x.4, x.5)
    weighs_four_depends (filled R) x =
        (x.0, known_depends x.1, x.2, λ s n a p. x.3 s n a p ∙ ap (λ o. row_from_first f (λ _. o) x.0 s n) (row n p))
    weighs_four_depends (asks k) x = (x.0, x.1, doubted_depends x.2, x.3)

    module _ (U U' : Table) (again : (E : Gaps) (i : ℕ) → Doubted f M N bound T E i → SameGap f (all_sums N bound) U U' i (beside i)) where
      sum_depends : (E : Gaps) (i : ℕ) → Doubted f M N bound T E i → (j : ℕ) → Page (all_sums N bound) j
          → sum_from_leads f M N bound U E i j ≡ sum_from_leads f M N bound U' E i j
      sum_depends E i x j b = ap (λ g. f.plus g (power_sum f N (λ n. E (beside i) (lead_of_others M E i n) n) j)) (again E i x j b)

      settles_four_depends : (o : Outcome) → SettlesFour f M N bound T U own o → SettlesFour f M N bound T' U' own' o
      settles_four_depends over x =
          (x.0, x.1, doubted_depends x.2, λ e z. x.3 e (solves_depends (λ j b. sym (sum_depends x.0 x.1 x.2 j b)) z))
      settles_four_depends (filled R) x = (
        x.0,
        x.1,
        x.2,
        doubted_depends x.3,
        solves_depends (sum_depends x.0 x.1 x.3) x.4,
        λ s n a p. x.5 s n a p ∙ ap (λ o. row_from_leads f M (λ _. o) x.0 x.1 x.2 s n) (row n p),
      )
      settles_four_depends (split n) x = x
      settles_four_depends (asks k) x = x

  -- ── three stations
  module _ (same : SameGaps f 3 (first_sums 3 bound) T T') where
    back_three : (s t : ℕ) (e : ℕ → ℕ) → Pair 3 s t → Solution f N (first_sums 3 bound) T' s t e → Solution f N (first_sums 3 bound) T s t e
    back_three = solution_depends f 3 N (first_sums 3 bound) T' T (λ s t p j b. sym (same s t p j b))

    taken_depends : {s t : ℕ} {e : ℕ → ℕ} → Taken f N bound T s t e → Taken f N bound T' s t e
    taken_depends x = record {
      pair = x.pair;
      solved = solves_depends (same _ _ x.pair) x.solved;
      least = λ u v d p y. x.least u v d p (back_three u v d p y);
      first = λ u v d p y. x.first u v d p (back_three u v d p y);
    }

    -- whichever sums settle
    module _ (U U' : Table) (again : (s t : ℕ) (e : ℕ → ℕ) → Taken f N bound T s t e → SameGap f (all_sums N bound) U U' 1 (third s t)) where
      settles_three_depends : (o : Outcome) → SettlesThree f N bound T U own o → SettlesThree f N bound T' U' own' o
      settles_three_depends over x =
          (x.0, x.1, x.2, taken_depends x.3, λ d z. x.4 d (solves_depends (λ j b. sym (again x.0 x.1 x.2 x.3 j b)) z))
      settles_three_depends (filled R) x = (
        x.0,
        x.1,
        x.2,
        x.3,
        taken_depends x.4,
        solves_depends (again x.0 x.1 x.2 x.4) x.5,
        λ s n a p. x.6 s n a p ∙ ap (λ o. row_of_three f (λ _. o) x.0 x.1 x.2 x.3 s n) (row n p),
      )
      settles_three_depends (split n) x = x
      settles_three_depends (asks k) x = x

    -- without more sums to ask for the first ones settle
    first_settle : all_sums N bound ≤ first_sums 3 bound → (o : Outcome) → SettlesThree f N bound T T own o → SettlesThree f N bound T' T' own' o
    first_settle k = settles_three_depends T T' (λ s t e x j b. same 1 (third s t) (third_is s t x.pair).0 j (omega arith))

    weighs_three_depends : (o : Outcome) → WeighsThree f N bound T own o → WeighsThree f N bound T' own' o
    weighs_three_depends over (inl none) = inl (λ s t p. unsolved_depends f 3 N (first_sums 3 bound) T T' same s t p (none s t p))
    weighs_three_depends over (inr x) = inr (x.0, first_settle x.0 over x.1)
    weighs_three_depends (split n) x = x
    weighs_three_depends (filled R) x = (x.0, first_settle x.0 (filled R) x.1)
    weighs_three_depends (asks k) x = (x.0, (x.1.0, x.1.1, x.1.2, taken_depends x.1.3, x.1.4))

-- ── the whole
-- i is 1 or the one asked, and is compared with the other of the two
first_and_asked : (P : ℕ → Type 0) (i : ℕ) → P 1 → P (asked i) → P i × P (beside i)
first_and_asked P i one again = go (eqb i 1) (eqb-true i 1) again
  where
    go : (b : Bool) → (b ≡ true → i ≡ 1) → P (cond b 2 i) → P i × P (cond b 2 1)
    go true is again = (subst P (sym (is refl)) one, again)
    go false _ again = (again, one)

module _ (f : Ops) (M N bound : ℕ) (T T' : Table) (own own' : ℕ → ℕ)
    (first : (s j : ℕ) → Station M s → Page (first_sums M bound) j → T s j ≡ T' s j)
    (row : (n : ℕ) → Page N n → own n ≡ own' n) where
  first_four : 4 ≤ M → SameGaps f M bound T T'
  first_four four =
      let h : first_sums M bound ≡ bound = ap (λ t. cond t ((3 * bound + 1) / 2) bound) (ne_eqb M 3 (omega arith)) in
      same_gaps f M bound T T' (subst (λ h. Same M h T T') h first)

  first_three : M ≡ 3 → SameGaps f 3 (first_sums 3 bound) T T'
  first_three e = same_gaps f 3 (first_sums 3 bound) T T' (subst (λ M. Same M (first_sums M bound) T T') e first)

  -- what weighing comes to depends on the first sums and on row 1 alone
  pub weighs_depends : (o : Outcome) → Weighs f M N bound T own o → Weighs f M N bound T' own' o
  weighs_depends o (inl x) = inl (x.0, weighs_four_depends f N bound T T' own own' row M (first_four x.0) o x.1)
  weighs_depends o (inr x) = inr (x.0, weighs_three_depends f N bound T T' own own' row (first_three x.0) o x.1)

  -- what settling comes to depends beside that on all sums of row 1 and of the station asked again
  pub settles_depends : (M ≡ 3 → first_sums 3 bound < all_sums N bound) → (U U' : Table)
      → ((j : ℕ) → Page (all_sums N bound) j → U 1 j ≡ U' 1 j)
      → ((k j : ℕ) → Weighs f M N bound T own (asks k) → Page (all_sums N bound) j → U k j ≡ U' k j)
      → (o : Outcome) → Settles f M N bound T U own o → Settles f M N bound T' U' own' o
  settles_depends more U U' one again o (inl x) =
      inl (x.0, settles_four_depends f N bound T T' own own' row M (first_four x.0) U U' at_beside o x.1)
    where
      at_beside : (E : Gaps) (i : ℕ) → Doubted f M N bound T E i → SameGap f (all_sums N bound) U U' i (beside i)
      at_beside E i d =
          let r = first_and_asked (TellSame (all_sums N bound) U U') i one (λ j. again (asked i) j (inl (x.0, (E, i, d, refl)))) in
          same_gap f (all_sums N bound) U U' i (beside i) r.0 r.1
  settles_depends more U U' one again o (inr x) =
      inr (x.0, settles_three_depends f N bound T T' own own' row (first_three x.0) U U' at_third o x.1)
    where
      at_third : (s t : ℕ) (e : ℕ → ℕ) → Taken f N bound T s t e → SameGap f (all_sums N bound) U U' 1 (third s t)
      at_third s t e y =
          same_gap f (all_sums N bound) U U' 1 (third s t) one (λ j. again (third s t) j (inr (x.0, (more x.0, (s, t, e, y, refl)))))
