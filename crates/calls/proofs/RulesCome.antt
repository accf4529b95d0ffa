-- However a check closed, it closed as the rules end that go from the first asking to the end.
use Rattle.std.proofs.Common.{ℕ, ◌⊎◌, List, inl, inr, subst, sym}
use Rattle.field.specs.Field.{Ops}
use Rattle.scheme.specs.Farm.{Table, Same}
use Rattle.scheme.specs.Askings.{Outcome, over, split, filled, asks}
use Rattle.scheme.specs.Ending.{Comes, Fills, EndsSplit, EndsReport}
use Rattle.tally.specs.Rows.{signature_in}
use Rattle.calls.specs.declared.terms.Terms.{Terms}
use Rattle.calls.specs.declared.phases.Verdict.{Verdict}
use Rattle.calls.specs.declared.phases.Verdict.TheVariants.{Report, Split, Over}
use Rattle.calls.specs.declared.phases.Way.{Way}
use Rattle.calls.specs.declared.phases.Way.TheVariants.{ByWeighing, BySettling}
use Rattle.calls.specs.Runs.{closed}
use Rattle.calls.specs.Closing.{WeighsBy}
use Rattle.calls.specs.Replies.{Unfilled, AsksBy, SettlesBy, ClosedAs, JudgedBy}

module _ (f : Ops) (t : Terms) (T P : Table) where
  -- an outcome to which the rules come
  abbrev Truly : Outcome → Type 0
  Truly over = Comes f t.farm.stations t.farm.pages t.farm.bound T T (P 1) over
  Truly (split n) = Comes f t.farm.stations t.farm.pages t.farm.bound T T (P 1) (split n)
  Truly (filled R) = Fills f t.farm.stations t.farm.pages t.farm.bound T T (P 1) P R
  Truly (asks k) = Unit {0}

  weighs_come : (o : Outcome) → WeighsBy f t T P o → Truly o
  weighs_come o (inl x) = subst Truly (sym x.1) (inl (x.2, x.3))
  weighs_come over (inr (not, w)) = (not, inl w)
  weighs_come (split n) (inr (not, w)) = (not, inl w)
  weighs_come (filled R) (inr (not, w)) = inr (not, inl w)
  weighs_come (asks k) (inr x) = tt

  settles_come : (k : ℕ) → AsksBy f t T P k → (o : Outcome) → SettlesBy f t T P o → Truly o
  settles_come k a over x = (a.0, inr ((k, a.1), x))
  settles_come k a (split n) x = (a.0, inr ((k, a.1), x))
  settles_come k a (filled R) x = inr (a.0, inr ((k, a.1), x))
  settles_come k a (asks i) x = tt

  -- over, a split, or a report whose rows stand in the tally
  abbrev pub Ended : (tally : List ℕ) → Verdict → Type 0
  Ended tally Over = Comes f t.farm.stations t.farm.pages t.farm.bound T T (P 1) over
  Ended tally (Split n) = EndsSplit f t.farm.stations t.farm.pages t.farm.bound T T (P 1) P n
  Ended tally Report =
      (R : Table) × EndsReport f t.farm.stations t.farm.pages t.farm.bound T T (P 1) P R
      × Same t.farm.stations t.farm.pages (signature_in tally t.farm.pages) R

  ended : (Ends : Outcome → Type 0) → ((o : Outcome) → Ends o → Truly o) → (tally : List ℕ) (v : Verdict) → ClosedAs t tally Ends v → Ended tally v
  ended Ends come tally Over x = come over x.0
  ended Ends come tally (Split n) (inl x) = inl (come (split n) x.0)
  ended Ends come tally (Split n) (inr x) = inr (x.0, come (filled x.0) x.1, x.3)
  ended Ends come tally Report x = (x.0, (come (filled x.0) x.1, x.3), x.2)

  -- where a page is split the tally has the rows that the rules fill, or none are filled
  split_by : (Ends : Outcome → Type 0) → ((o : Outcome) → Ends o → Truly o) → (tally : List ℕ) (n : ℕ) → ClosedAs t tally Ends (Split n)
      → ((R : Table) × Fills f t.farm.stations t.farm.pages t.farm.bound T T (P 1) P R × Same t.farm.stations t.farm.pages (signature_in tally t.farm.pages) R) ⊎ Unfilled t tally
  split_by Ends come tally n (inl x) = inr x.1
  split_by Ends come tally n (inr x) = inl (x.0, come (filled x.0) x.1, x.2)

  pub split_rows : (tally : List ℕ) (way : Way) (n : ℕ) → JudgedBy f t T P tally (closed way (Split n))
      → ((R : Table) × Fills f t.farm.stations t.farm.pages t.farm.bound T T (P 1) P R × Same t.farm.stations t.farm.pages (signature_in tally t.farm.pages) R) ⊎ Unfilled t tally
  split_rows tally ByWeighing n x = split_by (WeighsBy f t T P) weighs_come tally n x
  split_rows tally (BySettling k) n x = split_by (SettlesBy f t T P) (settles_come k x.0) tally n x.1

  pub rules_come : (tally : List ℕ) (way : Way) (v : Verdict) → JudgedBy f t T P tally (closed way v) → Ended tally v
  rules_come tally ByWeighing v x = ended (WeighsBy f t T P) weighs_come tally v x
  rules_come tally (BySettling k) v x = ended (SettlesBy f t T P) (settles_come k x.0) tally v x.1
