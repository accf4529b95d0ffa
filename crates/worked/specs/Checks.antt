-- Checks worked through their calls: steady runs that end in a report and in a split.
use Rattle.std.specs.Prelude.{◌≡◌, ℕ, ◌≤◌, List, [], ◌∷◌}
use Rattle.field.specs.Field.{Ops}
use Rattle.prime.specs.Prime.{prime}
use Rattle.wire.specs.declared.asked.Asked.TheVariants.{Sums}
use Rattle.wire.specs.declared.request.Request.{Request}
use Rattle.wire.specs.Requests.{Holds}
use Rattle.wire.specs.Reading.{reply_words}
use Rattle.station.specs.Serving.{answers}
use Rattle.scheme.specs.Askings.{Plain}
use Rattle.scheme.specs.Farm.{strays}
use Rattle.calls.specs.declared.book.Book.{Book}
use Rattle.calls.specs.declared.phases.Verdict.{Verdict}
use Rattle.calls.specs.declared.phases.Verdict.TheVariants.{Report, Split}
use Rattle.calls.specs.Opening.{Stands}
use Rattle.calls.specs.declared.phases.Way.{Way}
use Rattle.calls.specs.declared.phases.Way.TheVariants.{BySettling}
use Rattle.calls.specs.Runs.{closed, Call, Run}
use Rattle.calls.specs.Steady.{FarmHolds, copies, Steady}
use Rattle.calls.specs.Promise.{Differs}
use Rattle.desk.specs.Copies.{cards}

-- the cards of four stations, three pages each: the last has another page 2
abbrev pub one_bad : List ℕ
one_bad = 3 ∷ 0 ∷ 5 ∷ 3 ∷ 0 ∷ 5 ∷ 3 ∷ 0 ∷ 5 ∷ 3 ∷ 7 ∷ 5 ∷ []

-- two of them have one page 1, and two another
abbrev pub two_halves : List ℕ
two_halves = 5 ∷ 0 ∷ 0 ∷ 5 ∷ 0 ∷ 0 ∷ 6 ∷ 0 ∷ 0 ∷ 6 ∷ 0 ∷ 0 ∷ []

-- The stations hold these rows, with no more stray copies than the bound and too many pages for a plain check; and a steady run of calls on a check
-- of them, from its opening, closed with this verdict, by weighing or by settling.
pub record Closes (f : Ops) (M N bound : ℕ) (holds : ℕ → List ℕ) (v : Verdict) : Type 0 where
  pub farm : FarmHolds f M N holds
  pub few : strays M (copies holds) N ≤ bound
  pub not_plain : ¬ Plain M N bound
  -- the tally as opening left it, and as it is now
  pub opened : List ℕ
  pub last : List ℕ
  pub calls : List Call
  pub book : Book
  pub terms : Stands book.terms 1 M N bound
  pub way : Way
  pub run : Run f (holds 1) opened calls book (closed way v)
  pub steady : Steady f holds (holds 1) opened calls last

pub record WorkedChecks : Type 0 where
  pub report : Closes prime 4 3 1 (cards prime 3 one_bad) Report
  -- it closed by settling, after station 4 was asked again
  pub asked : report.way ≡ BySettling 4
  -- it takes sum 1 of three stations, and sum 2 of one
  pub taken : report.book.counts.taken ≡ 4
  -- what station 4 answers when it is asked for sum 2, which is 4239: in a steady run the accepted reply has these words
  pub reply : (q : Request) → Holds q 1 4 Sums 2 2
      → reply_words q (answers prime (cards prime 3 one_bad 4) q) ≡ 0x1000_0001 ∷ 0x2000_0004 ∷ 0x3000_0002 ∷ 0x5000_0002 ∷ 0x6000_108F ∷ []
  pub bad : Differs 4 (copies (cards prime 3 one_bad)) 4 2
  pub split : Closes prime 4 3 2 (cards prime 3 two_halves) (Split 1)
