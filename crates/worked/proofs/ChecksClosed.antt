-- A check of four cards closes with the verdict that its pages have, and takes four sums where a station is asked again.
use Rattle.std.proofs.Common.{◌≡◌, ℕ, ◌+◌, ◌*◌, ◌≤◌, ◌<◌, List, length, inl, inr, refl, ap, ◌∙◌, arith}
use native.Mathlib.Decide.{ℕ_discrete}
use Rattle.algebra.specs.Vectors.{Page}
use Rattle.prime.specs.Prime.{prime}
use Rattle.prime.specs.Laws.{prime_laws}
use Rattle.scheme.specs.Closing.{Reports}
use Rattle.scheme.specs.Farm.{strays, Decided}
use Rattle.calls.specs.declared.book.Book.{Book}
use Rattle.calls.specs.declared.phases.Verdict.{Verdict}
use Rattle.calls.specs.declared.phases.Verdict.TheVariants.{Report, Split, Over}
use Rattle.calls.specs.Opening.{Stands}
use Rattle.calls.specs.declared.phases.Way.{Way}
use Rattle.calls.specs.Runs.{closed}
use Rattle.calls.specs.Steady.{copies}
use Rattle.calls.specs.Promise.{Right}
use Rattle.desk.specs.Copies.{cards}
use Rattle.desk.specs.Going.{Taken, Checked}
use Rattle.desk.proofs.Asked.{by_terms}
use Rattle.desk.proofs.CardsHeld.{cards_held}
use Rattle.worked.specs.Checks.{Closes, one_bad, two_halves}
use Rattle.worked.proofs.FourCards.{four_not_plain, one_stray, two_stray, one_bad_decided, two_halves_undecided, two_halves_decided}
use Rattle.worked.proofs.AskedAgain.{one_bad_asks}

module _ (bound : ℕ) (low : bound < 3) (words : List ℕ) (whole : length words ≡ 12) (few : strays 4 (copies (cards prime 3 words)) 3 ≤ bound)
    (before after : List ℕ) (b : Book) (v : Verdict) (checked : Checked 4 3 bound prime words before b v after) where
  -- a check of cards closes by its calls
  abbrev pub closes : Closes prime 4 3 bound (cards prime 3 words) v
  closes = record {
    farm = cards_held prime 4 3 words whole prime_laws;
    few = few;
    not_plain = four_not_plain bound low;
    opened = checked.by_calls.opened;
    last = after;
    calls = checked.by_calls.calls;
    book = b;
    terms = checked.terms;
    way = checked.way;
    run = checked.by_calls.run;
    steady = checked.by_calls.steady;
  }

module _ (before after : List ℕ) (b : Book) where
  pub one_bad_reports : (v : Verdict) → Checked 4 3 1 prime one_bad before b v after → v ≡ Report
  one_bad_reports v checked = by checked.way v checked.terms (checked.right (inr one_stray))
    where
      by : (way : Way) (v : Verdict) → Stands b.terms 1 4 3 1 → Right (copies (cards prime 3 one_bad)) b.terms after (closed way v) → v ≡ Report
      by way Report stands right = refl
      by way (Split n) stands right =
          let r = by_terms (λ M N bound. Page N n × (¬ Decided M (copies (cards prime 3 one_bad)) n)) b.terms 1 4 3 1 stands (right.page, right.undecided) in
          absurd (r.1 (one_bad_decided n r.0))
      by way Over stands right = absurd right

  pub two_halves_splits : (v : Verdict) → Checked 4 3 2 prime two_halves before b v after → v ≡ Split 1
  two_halves_splits v checked = by checked.way v checked.terms (checked.right (inr two_stray))
    where
      by : (way : Way) (v : Verdict) → Stands b.terms 1 4 3 2 → Right (copies (cards prime 3 two_halves)) b.terms after (closed way v) → v ≡ Split 1
      by way Report stands right =
          let r = by_terms (λ M N bound. Reports M N (copies (cards prime 3 two_halves))) b.terms 1 4 3 2 stands right.decided in
          absurd (two_halves_undecided (r 1 (omega arith, omega arith)))
      by way (Split n) stands right =
          let r = by_terms (λ M N bound. Page N n × (¬ Decided M (copies (cards prime 3 two_halves)) n)) b.terms 1 4 3 2 stands (right.page, right.undecided) in
          elim (ℕ_discrete n 1) [
            | yes e ↦ ap Split e
            | no other ↦ absurd (r.1 (two_halves_decided n r.0 (omega (arith, r.0, other))))
          ]
      by way Over stands right = absurd right

-- one sum of each of three stations, and one more of the station that is asked again
pub one_bad_taken : (count : ℕ) → Taken 4 3 1 prime one_bad count → count ≡ 4
one_bad_taken count (d, due, is) = elim due [
  | inl plain ↦ absurd (four_not_plain 1 (omega arith) plain.0)
  | inr x ↦
      let one : d ≡ 1 = x.1 in
      elim is [
        | inl again ↦ again.1 ∙ ap (λ d. 3 * d + 1) one
        | inr never ↦ absurd (never.0 one_bad_asks)
      ]
]
