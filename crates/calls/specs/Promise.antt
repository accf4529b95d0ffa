-- The promise: what holds at every moment of every run of calls on a check.
use Rattle.std.specs.Prelude.{◌≡◌, ℕ, ◌+◌, ◌-◌, ◌*◌, ◌≤◌, min, cond, ◌≢◌, ◌⊎◌, List, [], ◌∷◌, length, Some, Ok, ◌==◌}
use Rattle.field.specs.Field.{Ops, Laws, Spread}
use Rattle.field.specs.Sums.{entry, power_sum}
use Rattle.algebra.specs.Vectors.{Page, Codes}
use Rattle.scheme.specs.Farm.{Table, Station, Same, Majority, Decided, strays}
use Rattle.scheme.specs.Askings.{first_sums, Outcome}
use Rattle.scheme.specs.Closing.{Reports}
use Rattle.tally.specs.Rows.{signature_in}
use Rattle.tally.specs.Listing.{Listed}
use Rattle.calls.specs.declared.book.Book.{Book}
use Rattle.calls.specs.declared.terms.Terms.{Terms}
use Rattle.calls.specs.declared.slip.Returned.TheVariants.{Answered, Blank}
use Rattle.calls.specs.declared.phases.Verdict.TheVariants.{Report, Split, Over}
use Rattle.calls.specs.declared.phases.Way.{Way}
use Rattle.calls.specs.Standings.{replies_out}
use Rattle.calls.specs.Questions.{PlainTerms}
use Rattle.calls.specs.Closing.{WeighsBy}
use Rattle.calls.specs.Listing.{Listing}
use Rattle.calls.specs.Runs.{Stage, first, second, closed, Call, slip, take, return, Run}
use Rattle.calls.specs.States.{SlipsKnown}
use Rattle.calls.specs.Steady.{FarmHolds, copies, sums, OneTally, Steady}
use Rattle.calls.specs.Replies.{AsTold, Unfilled, AsksBy, SettlesBy, JudgedBy, ClosedRun, RepliesJudged, RepliesDecide}

-- ── counts

-- what a call adds to the slips handed out
abbrev pub handed_by : Call → ℕ
handed_by (slip s q (Ok p) q') = 1
handed_by _ = 0

-- to the returns that said "answered"
abbrev pub answered_by : Call → ℕ
answered_by (return p (Ok Answered)) = 1
answered_by _ = 0

-- to those that said "blank"
abbrev pub blank_by : Call → ℕ
blank_by (return p (Ok Blank)) = 1
blank_by _ = 0

-- to the sums and signatures taken: the value words of an accepted reply are those after its four header words
abbrev pub taken_by : Call → ℕ
taken_by (take p w t (Ok u) t') = length w - 4
taken_by _ = 0

-- to the replies that were accepted
abbrev pub replied_by : Call → ℕ
replied_by (take p w t (Ok u) t') = 1
replied_by _ = 0

-- over all calls
abbrev pub all_calls : (Call → ℕ) → List Call → ℕ
all_calls adds [] = 0
all_calls adds (c ∷ ks) = adds c + all_calls adds ks

-- the most sums and signatures that a check of M stations and N pages takes
abbrev pub most_taken : (M N bound : ℕ) → ℕ
most_taken M N bound = cond (M == 3) (min N (first_sums 3 bound) + min N (2 * bound)) ((M - 2) * min N bound + min N (2 * bound))

-- the check's counts are those of the calls; each accepted reply was returned, as "answered", or its slip is still out
pub record Counted (ks : List Call) (b : Book) : Type 0 where
  pub handed : b.counts.handed ≡ all_calls handed_by ks
  pub answered : b.counts.answered ≡ all_calls answered_by ks
  pub blank : b.counts.blank ≡ all_calls blank_by ks
  pub taken : b.counts.taken ≡ all_calls taken_by ks
  pub out : b.counts.handed ≡ b.counts.answered + b.counts.blank + b.counts.out
  pub replied : b.counts.answered + replies_out b.standings ≡ all_calls replied_by ks
  pub few : b.counts.taken ≤ most_taken b.terms.farm.stations b.terms.farm.pages b.terms.farm.bound

-- ── answers

module _ (f : Ops) (holds : ℕ → List ℕ) (t : Terms) where
  -- what weighing comes to by what the stations hold
  abbrev pub TrulyWeighs : Outcome → Type 0
  TrulyWeighs = WeighsBy f t (sums f t.farm.pages holds) (copies holds)

  -- weighing asks station k again
  abbrev pub TrulyAsks : ℕ → Type 0
  TrulyAsks = AsksBy f t (sums f t.farm.pages holds) (copies holds)

  -- what settling comes to
  abbrev pub TrulySettles : Outcome → Type 0
  TrulySettles = SettlesBy f t (sums f t.farm.pages holds) (copies holds)

  -- weighing and settling did what the rules say of what the stations hold
  abbrev pub Judged : (tally : List ℕ) → Stage → Type 0
  Judged = JudgedBy f t (sums f t.farm.pages holds) (copies holds)

-- the copy of page n at station s differs from what more than half of the stations hold
abbrev pub Differs : ℕ → Table → (s n : ℕ) → Type 0
Differs M P s n = (v : ℕ) × Majority M P n v × (P s n ≢ v)

-- a report is right of the table P: every page has a majority, the tally's rows are those of P, and any list that is not refused names, rising, exactly
-- the pages of its station that differ from the majority
pub record ReportRight (P : Table) (t : Terms) (tally : List ℕ) : Type 0 where
  pub decided : Reports t.farm.stations t.farm.pages P
  pub rows : Same t.farm.stations t.farm.pages (signature_in tally t.farm.pages) P
  pub lists : (s count : ℕ) (before after : List ℕ) → Listing t (Some Report) s tally before (Ok count) after
      → Listed t.farm.pages (Differs t.farm.stations P s) before after count

-- a split is right of the table P: its page has no majority; the tally's rows are those of P, or none are filled
pub record SplitRight (P : Table) (t : Terms) (tally : List ℕ) (n : ℕ) : Type 0 where
  pub page : Page t.farm.pages n
  pub undecided : ¬ Decided t.farm.stations P n
  pub rows : Same t.farm.stations t.farm.pages (signature_in tally t.farm.pages) P ⊎ Unfilled t tally

-- what was found is right of P: a split and a report are, and the check is never over
abbrev pub Right : (P : Table) → Terms → (tally : List ℕ) → Stage → Type 0
Right P t tally first = Unit {0}
Right P t tally (second k) = Unit {0}
Right P t tally (closed way Over) = ⊥
Right P t tally (closed way (Split n)) = SplitRight P t tally n
Right P t tally (closed way Report) = ReportRight P t tally

-- the table P yields all that was told: its row 1 is the own copy, and its sums and signatures are those of the accepted replies
pub record YieldsAll (f : Ops) (own : List ℕ) (t : Terms) (ks : List Call) (P : Table) : Type 0 where
  pub codes : (s : ℕ) → Station t.farm.stations s → Codes f t.farm.pages (P s)
  pub told : AsTold f own t ks (λ s. power_sum f t.farm.pages (P s)) P

-- At every moment of every run whose calls share one tally, weighing and settling did what the rules say of any table that yields all that was told; and if
-- it has no more stray copies than the bound, or the check is plain, what was found is right of it. Of the stations nothing is supposed.
abbrev pub RepliesRight : Type 0
RepliesRight =
    (f : Ops) → Laws f → Spread f → (own tally : List ℕ) (ks : List Call) (b : Book) (g : Stage) → Run f own tally ks b g →
    (last : List ℕ) → OneTally tally ks last → (P : Table) → YieldsAll f own b.terms ks P →
    JudgedBy f b.terms (λ s. power_sum f b.terms.farm.pages (P s)) P last g
    × (PlainTerms b.terms ⊎ (strays b.terms.farm.stations P b.terms.farm.pages ≤ b.terms.farm.bound) → Right P b.terms last g)

-- Where a check closed with a report, the rows in the tally are such a table, if the own copy is of codes.
abbrev pub ReportYields : Type 0
ReportYields =
    (f : Ops) → Laws f → Spread f → (own : List ℕ) (ks : List Call) (b : Book) (way : Way) (last : List ℕ) →
    ClosedRun f own ks b way Report last → Codes f b.terms.farm.pages (entry own) → YieldsAll f own b.terms ks (signature_in last b.terms.farm.pages)

-- What accepted replies alone make of a run.
abbrev pub ByReplies : Type 0
ByReplies = RepliesJudged × RepliesRight × RepliesDecide × ReportYields

-- THE PROMISE. In every field, for every own copy, at every moment of every run: the counts are those of the calls, and what a check knows of its slips is
-- what was done about their requests. If the farm was steady, weighing and settling did what the rules say; and if there are no more stray copies than the
-- bound, or the check is plain, what was found is right.
pub record Promised (f : Ops) (own tally : List ℕ) (ks : List Call) (b : Book) (g : Stage) : Type 0 where
  pub counted : Counted ks b
  pub known : SlipsKnown ks b g
  pub steady : (holds : ℕ → List ℕ) (last : List ℕ) → FarmHolds f b.terms.farm.stations b.terms.farm.pages holds → Steady f holds own tally ks last →
      Judged f holds b.terms last g
      × (PlainTerms b.terms ⊎ (strays b.terms.farm.stations (copies holds) b.terms.farm.pages ≤ b.terms.farm.bound) → Right (copies holds) b.terms last g)

abbrev pub EveryRun : Type 0
EveryRun =
    (f : Ops) → Laws f → Spread f → (own tally : List ℕ) (ks : List Call) (b : Book) (g : Stage) → Run f own tally ks b g →
    Promised f own tally ks b g
