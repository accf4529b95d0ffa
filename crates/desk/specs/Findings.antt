-- The text of a farm's findings: a line for each bad copy, or the page that is split, or `over`; then the count of sums taken. A refusal's line stands alone.
use Rattle.std.specs.Prelude.{◌≡◌, ℕ, suc, ◌+◌, ◌*◌, ◌≤◌, ◌⊎◌, min, List, [], ◌∷◌, ◌++◌, length, drop, Some, None, Option}
use Rattle.field.specs.Field.{Ops}
use Rattle.field.specs.Sums.{entry}
use Rattle.binary.specs.Binary.{small}
use Rattle.algebra.specs.Vectors.{Page}
use Rattle.refusal.specs.declared.Refusal.{Refusal}
use Rattle.refusal.specs.Rules.{Rule, Within, unless, Accepted, Refused}
use Rattle.lines.specs.Text.{refusal_line}
use Rattle.scheme.specs.Askings.{Plain, over}
use Rattle.scheme.specs.Closing.{Reports}
use Rattle.scheme.specs.Ending.{Comes, EndsSplit, EndsReport}
use Rattle.scheme.specs.Farm.{Table, Bad, Decided, strays}
use Rattle.calls.specs.declared.book.Book.{Book}
use Rattle.calls.specs.declared.phases.Way.{Way}
use Rattle.calls.specs.declared.phases.Verdict.{Verdict}
use Rattle.calls.specs.Runs.{Call, closed}
use Rattle.calls.specs.Steady.{copies, sums}
use Rattle.calls.specs.Promise.{Differs}
use Rattle.desk.specs.Copies.{cards}
use Rattle.desk.specs.Going.{Calls, Taken}
use Rattle.desk.specs.Lines.{over_line, split_line, sums_line, LinesOf}
use Rattle.desk.specs.Listings.{VerdictText}

-- ── the bytes that are read: the stations, the pages, the bound, then the signatures, station by station

abbrev pub stations_of : List ℕ → ℕ
stations_of input = entry input 1

abbrev pub pages_of : List ℕ → ℕ
pages_of input = entry input 2

abbrev pub bound_of : List ℕ → ℕ
bound_of input = entry input 3

-- how many bytes there are to be
abbrev pub due : List ℕ → ℕ
due input = 3 + stations_of input * pages_of input

-- fewer than three bytes, the stations, the pages, the bound, then the first byte that is missing or surplus
abbrev pub reading : List ℕ → List Rule
reading input =
    unless (3 ≤ length input) 8 (suc (length input)) ∷ unless (Within 3 8 (stations_of input)) 1 2 ∷ unless (Within 1 255 (pages_of input)) 1 3
    ∷ unless (Within 1 64 (bound_of input)) 1 4 ∷ unless (length input ≡ due input) 8 (suc (min (due input) (length input))) ∷ []

-- ── what is found

-- what the rules find of what the stations hold
abbrev pub RulesFind : Ops → (M N bound : ℕ) → (ℕ → List ℕ) → List ℕ → Type 0
RulesFind f M N bound holds text =
    (Comes f M N bound (sums f N holds) (sums f N holds) (copies holds 1) over × (text ≡ over_line))
    ⊎ (((n : ℕ) × EndsSplit f M N bound (sums f N holds) (sums f N holds) (copies holds 1) (copies holds) n × (text ≡ split_line n))
    ⊎ ((R : Table) × EndsReport f M N bound (sums f N holds) (sums f N holds) (copies holds 1) (copies holds) R × LinesOf N (Bad M R) M text))

-- what is true of it: a page has no majority, or each has one, and these are the copies that differ from it
abbrev pub TrueFind : (M N : ℕ) → (ℕ → List ℕ) → List ℕ → Type 0
TrueFind M N holds text =
    ((n : ℕ) × Page N n × (¬ Decided M (copies holds) n) × (text ≡ split_line n))
    ⊎ (Reports M N (copies holds) × LinesOf N (Differs M (copies holds)) M text)

-- the run of calls on one check by which the text of its verdict was written, the calls that list a report's stations last
pub record ByCalls (M N bound : ℕ) (signatures text : List ℕ) : Type 0 where
  pub before : List ℕ
  pub book : Book
  pub way : Way
  pub verdict : Verdict
  pub tally : List ℕ
  pub run : Calls small M N bound signatures before book (closed way verdict) tally
  pub lists : List Call
  pub earlier : List Call
  pub last : run.calls ≡ lists ++ earlier
  pub says : VerdictText book.terms tally verdict lists text

-- what is written of a farm: what its check's calls gave, which is what the rules find, and how many sums were taken. In the bound and in a plain farm
-- what they find is true.
pub record FarmText (M N bound : ℕ) (signatures out : List ℕ) : Type 0 where
  pub body : List ℕ
  pub count : ℕ
  pub text : out ≡ body ++ sums_line count
  pub by_calls : ByCalls M N bound signatures body
  pub taken : Taken M N bound small signatures count
  pub rules : RulesFind small M N bound (cards small N signatures) body
  pub truth : Plain M N bound ⊎ (strays M (copies (cards small N signatures)) N ≤ bound) → TrueFind M N (cards small N signatures) body

-- what is written for an input: its findings, or the line of the refusal that says why there are none
abbrev pub FindingsText : (input : List ℕ) → Option Refusal → (text : List ℕ) → Type 0
FindingsText input None text = Accepted (reading input) × FarmText (stations_of input) (pages_of input) (bound_of input) (drop 3 input) text
FindingsText input (Some refusal) text = Refused (reading input) refusal × (text ≡ refusal_line refusal)
