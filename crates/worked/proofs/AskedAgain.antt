-- In the farm with one bad copy weighing asks station 4 again: the pairs of station 4 have no solution by sum 1.
use Rattle.std.proofs.Common.{◌≡◌, ℕ, refl, sym, ap, subst, ◌∙◌, ◌⊎◌, List, inl, inr, true, false, arith}
use Rattle.prime.specs.Prime.{prime}
use Rattle.prime.specs.Laws.{prime_laws, prime_spread}
use Rattle.scheme.specs.Askings.{Plain, Outcome, over, split, filled, asks}
use Rattle.scheme.specs.Differences.{Gaps, gap, Suspect}
use Rattle.scheme.specs.Farm.{Table, Station}
use Rattle.scheme.specs.Four.{asked, Known, none_suspect, three_suspect, one_suspect}
use Rattle.scheme.specs.Pairs.{among, Pair, Triangle}
use Rattle.scheme.specs.Theorem.{Finds}
use Rattle.scheme.specs.Weighing.{Weighs}
use Rattle.scheme.proofs.AtLeastOne.{some_outcome}
use Rattle.scheme.proofs.AtMostOne.{one_outcome}
use Rattle.scheme.proofs.Truth.{right}
use Rattle.calls.specs.declared.terms.Terms.{Terms}
use Rattle.calls.specs.declared.phases.Verdict.{Verdict}
use Rattle.calls.specs.Opening.{Stands}
use Rattle.calls.specs.Promise.{Judged}
use Rattle.calls.specs.declared.phases.Way.{Way}
use Rattle.calls.specs.declared.phases.Way.TheVariants.{ByWeighing, BySettling}
use Rattle.calls.specs.Runs.{closed}
use Rattle.calls.proofs.JudgedBy.{alike_asks}
use Rattle.desk.proofs.Asked.{by_terms}
use Rattle.desk.proofs.CardsClosed.{closing_outcome}
use Rattle.calls.specs.Steady.{copies, sums}
use Rattle.desk.specs.Copies.{cards}
use Rattle.desk.specs.Going.{AsksAgain}
use Rattle.desk.proofs.CardsHeld.{cards_held}
use Rattle.worked.specs.Checks.{one_bad}
use Rattle.worked.proofs.FourCards.{four_not_plain, one_stray, one_bad_decided}
use Rattle.worked.proofs.EachOne.{each_station}
use Rattle.worked.proofs.OneSum.{unsolved}

abbrev held : Table
held = copies (cards prime 3 one_bad)

abbrev told : Table
told = sums prime 3 (cards prime 3 one_bad)

-- sum 1 of the others is 144, that of station 4 is 207
gap_one : gap prime told 1 4 1 ≡ 65474
gap_one = refl

gap_two : gap prime told 2 4 1 ≡ 65474
gap_two = refl

gap_three : gap prime told 3 4 1 ≡ 65474
gap_three = refl

one_four : Suspect prime 4 3 1 told 1 4
one_four = inl (unsolved told 1 4 (λ z. omega (arith, gap_one, z)))

two_four : Suspect prime 4 3 1 told 2 4
two_four = inl (unsolved told 2 4 (λ z. omega (arith, gap_two, z)))

three_four : Suspect prime 4 3 1 told 3 4
three_four = inl (unsolved told 3 4 (λ z. omega (arith, gap_three, z)))

-- a triangle has three stations, and all four would be among them
four_among : (x y z : ℕ) → Triangle 4 (Suspect prime 4 3 1 told) x y z → (m : ℕ) → Station 4 m → among x y z m ≡ true
four_among x y z tri = each_station (λ m. among x y z m ≡ true) (both 1 4 (omega arith, omega arith, omega arith) one_four).0
    (both 2 4 (omega arith, omega arith, omega arith) two_four).0 (both 3 4 (omega arith, omega arith, omega arith) three_four).0
    (both 3 4 (omega arith, omega arith, omega arith) three_four).1
  where
    both : (s t : ℕ) → Pair 4 s t → Suspect prime 4 3 1 told s t → (among x y z s ≡ true) × (among x y z t ≡ true)
    both s t pair suspect = (tri.4 s t pair).0 suspect

-- in the pair of 1 and 4 and in that of 2 and 4
four_in_both : (i : ℕ) → (i ≡ 1) ⊎ (i ≡ 4) → (i ≡ 2) ⊎ (i ≡ 4) → i ≡ 4
four_in_both i (inr e) _ = e
four_in_both i (inl a) (inr e) = e
four_in_both i (inl a) (inl b) = omega arith

-- station 4 is in doubt
four_in_doubt : (E : Gaps) (i : ℕ) → Known prime 4 3 1 told E i → i ≡ 4
four_in_doubt E i (none_suspect _ empty) = absurd (empty 1 4 (omega arith, omega arith, omega arith) one_four)
four_in_doubt E i (three_suspect x y z m _ tri low) = absurd (let no : true ≡ false = sym (four_among x y z tri m low.0) ∙ low.1 in cc)
four_in_doubt E i (one_suspect _ _ low) =
    four_in_both i (low.1 1 4 (omega arith, omega arith, omega arith) one_four) (low.1 2 4 (omega arith, omega arith, omega arith) two_four)

found : Finds prime 4 3 1 held told told (held 1)
found = right prime prime_laws prime_spread 4 3 1 (omega arith) (omega arith) held told told (held 1)
    (cards_held prime 4 3 one_bad refl prime_laws).codes
    (inr (
      one_stray,
      record {
        own_row = λ n page. refl;
        first = λ s j station page. refl;
        own_sums = λ j page. refl;
        second = λ k j again page. refl;
      },
    ))

-- nothing but the asking of station 4 is left
by_outcome : (o : Outcome) → Weighs prime 4 3 1 told (held 1) o → Weighs prime 4 3 1 told (held 1) (asks 4)
by_outcome over w = absurd (found.never_over (four_not_plain 1 (omega arith), inl w))
by_outcome (split n) w = let s = found.split_true n (inl (four_not_plain 1 (omega arith), inl w)) in absurd (s.1 (one_bad_decided n s.0))
by_outcome (filled R) (inl w) = absurd (let four = four_in_doubt w.1.0 0 w.1.1 in omega arith)
by_outcome (filled R) (inr w) = absurd (let four : ◌≡◌ {A = ℕ} 4 3 = w.0 in omega arith)
by_outcome (asks k) (inl w) =
    let four : k ≡ 4 = w.1.3 ∙ ap asked (four_in_doubt w.1.0 w.1.1 w.1.2.known) in
    subst (λ k. Weighs prime 4 3 1 told (held 1) (asks k)) four (inl w)
by_outcome (asks k) (inr w) = absurd (let four : ◌≡◌ {A = ℕ} 4 3 = w.0 in omega arith)

asks_four : Weighs prime 4 3 1 (sums prime 3 (cards prime 3 one_bad)) (copies (cards prime 3 one_bad) 1) (asks 4)
asks_four =
    let some = (some_outcome prime prime_laws prime_spread 4 3 1 (omega arith) (omega arith) told told (held 1)).0 in
    by_outcome some.0 some.1

pub one_bad_asks : AsksAgain 4 3 1 prime one_bad
one_bad_asks = (four_not_plain 1 (omega arith), (4, asks_four))

-- so it comes to nothing else
alone : (o : Outcome) → Weighs prime 4 3 1 told (held 1) o → o ≡ asks 4
alone o w = alike_asks o ((one_outcome prime prime_laws prime_spread 4 3 1 (omega arith) told told (held 1) o (asks 4)).0 w asks_four)

-- a check of these cards closes after a second asking, of station 4
pub asked_four : (t : Terms) → Stands t 1 4 3 1 → (tally : List ℕ) (way : Way) (v : Verdict)
    → Judged prime (cards prime 3 one_bad) t tally (closed way v) → way ≡ BySettling 4
asked_four t stands tally (BySettling k) v judged =
    let same = alone (asks k) (by_terms (λ M N bound. Weighs prime M N bound (sums prime N (cards prime 3 one_bad)) (held 1) (asks k)) t 1 4 3 1 stands judged.0.1) in
    cc
asked_four t stands tally ByWeighing v judged =
    let o = closing_outcome prime (cards prime 3 one_bad) t tally v judged in
    elim o.1 [
      | inl hand ↦ absurd (four_not_plain 1 (omega arith) (by_terms Plain t 1 4 3 1 stands hand.2))
      | inr x ↦
          absurd (o.2 4 (alone o.0 (by_terms (λ M N bound. Weighs prime M N bound (sums prime N (cards prime 3 one_bad)) (held 1) o.0) t 1 4 3 1 stands x.1)))
    ]
