-- What accepted replies gave, and what they make of the tally and of the verdict, whatever the stations hold.
use Rattle.std.specs.Prelude.{◌≡◌, ℕ, ◌+◌, ◌-◌, ◌<◌, ◌⊎◌, List, [], ◌∷◌, drop, Ok, slice_index}
use Rattle.field.specs.Field.{Ops, Laws, Spread}
use Rattle.field.specs.Sums.{entry, power_sum}
use Rattle.algebra.specs.Vectors.{Page}
use Rattle.refusal.specs.Rules.{Within}
use Rattle.wire.specs.Words.{value_of}
use Rattle.wire.specs.declared.asked.Asked.{Asked}
use Rattle.wire.specs.declared.asked.Asked.TheVariants.{Sums, Signatures}
use Rattle.scheme.specs.Farm.{Table, Same}
use Rattle.scheme.specs.Askings.{first_sums, all_sums, Outcome, asks}
use Rattle.scheme.specs.Weighing.{Weighs}
use Rattle.scheme.specs.Settling.{Settles}
use Rattle.tally.specs.Rows.{sum_in, signature_in}
use Rattle.calls.specs.declared.terms.Terms.{Terms}
use Rattle.calls.specs.declared.book.Book.{Book}
use Rattle.calls.specs.declared.phases.Verdict.{Verdict}
use Rattle.calls.specs.declared.phases.Way.{Way}
use Rattle.calls.specs.declared.phases.Way.TheVariants.{ByWeighing, BySettling}
use Rattle.calls.specs.Questions.{PlainTerms}
use Rattle.calls.specs.Closing.{WeighsBy, ClosesBy}
use Rattle.calls.specs.Runs.{Stage, first, second, closed, Call, take, Run}
use Rattle.calls.specs.Steady.{OneTally}

-- This call took a reply of station s, and under index i of what is asked its value is v: the values follow four header words.
abbrev pub Gives : Call → Asked → (s i v : ℕ) → Type 0
Gives (take p w t (Ok u) t') asked s i v =
    (p.request.station ≡ s) × (p.request.asked ≡ asked) × Within p.request.first p.request.last i
    × (value_of (slice_index (drop 4 w) (i - p.request.first)) ≡ v)
Gives _ asked s i v = ⊥

-- some accepted reply of these calls has this value
abbrev pub Replied : List Call → Asked → (s i v : ℕ) → Type 0
Replied [] asked s i v = ⊥
Replied (c ∷ ks) asked s i v = Gives c asked s i v ⊎ Replied ks asked s i v

-- station s replied to every index from .. to
abbrev pub RepliedTo : List Call → Asked → (s from to : ℕ) → Type 0
RepliedTo ks asked s from to = (i : ℕ) → Within from to i → (v : ℕ) × Replied ks asked s i v

-- T of sums and P of signatures are as told: row 1 by the own copy, the other rows by the accepted replies, as far as these go
pub record AsTold (f : Ops) (own : List ℕ) (t : Terms) (ks : List Call) (T P : Table) : Type 0 where
  pub own_row : (n : ℕ) → Page t.farm.pages n → P 1 n ≡ entry own n
  pub own_sums : (j : ℕ) → Page (all_sums t.farm.pages t.farm.bound) j → T 1 j ≡ power_sum f t.farm.pages (entry own) j
  pub sums : (s j v : ℕ) → Replied ks Sums s j v → T s j ≡ v
  pub signatures : (s n v : ℕ) → Replied ks Signatures s n v → P s n ≡ v

-- every station replied to the first asking
abbrev pub FirstReplied : List Call → Terms → Type 0
FirstReplied ks t =
    (s : ℕ) → Within 2 t.farm.stations s
    → (PlainTerms t × RepliedTo ks Signatures s 1 t.farm.pages) ⊎ ((¬ PlainTerms t) × RepliedTo ks Sums s 1 (first_sums t.farm.stations t.farm.bound))

-- station k replied to the second
abbrev pub SecondReplied : List Call → Terms → ℕ → Type 0
SecondReplied ks t k = RepliedTo ks Sums k (first_sums t.farm.stations t.farm.bound + 1) (all_sums t.farm.pages t.farm.bound)

-- an asking is over once all that it asks for is replied to
abbrev pub AllReplied : List Call → Terms → Stage → Type 0
AllReplied ks t first = Unit {0}
AllReplied ks t (second k) = FirstReplied ks t
AllReplied ks t (closed ByWeighing v) = FirstReplied ks t
AllReplied ks t (closed (BySettling k) v) = FirstReplied ks t × SecondReplied ks t k

-- what is asked of stations 2 .. M up to a stage: of every one in the first asking, of station k in the second
abbrev pub FirstAsked : Terms → Asked → (i : ℕ) → Type 0
FirstAsked t asked i =
    (PlainTerms t × (asked ≡ Signatures) × Page t.farm.pages i) ⊎ ((¬ PlainTerms t) × (asked ≡ Sums) × Page (first_sums t.farm.stations t.farm.bound) i)

abbrev pub SecondAsked : Terms → (k : ℕ) → Asked → (s i : ℕ) → Type 0
SecondAsked t k asked s i = (k ≡ s) × (asked ≡ Sums) × Within (first_sums t.farm.stations t.farm.bound + 1) (all_sums t.farm.pages t.farm.bound) i

abbrev pub AskedFor : Terms → Stage → Asked → (s i : ℕ) → Type 0
AskedFor t first asked s i = FirstAsked t asked i
AskedFor t (second k) asked s i = FirstAsked t asked i ⊎ SecondAsked t k asked s i
AskedFor t (closed ByWeighing v) asked s i = FirstAsked t asked i
AskedFor t (closed (BySettling k) v) asked s i = FirstAsked t asked i ⊎ SecondAsked t k asked s i

-- every accepted reply is a station's, of codes, to what it is asked for
abbrev pub OnlyReplied : Ops → List Call → Terms → Stage → Type 0
OnlyReplied f ks t g = (asked : Asked) (s i v : ℕ) → Replied ks asked s i v → Within 2 t.farm.stations s × AskedFor t g asked s i × (v < f.size)

-- no signatures stand in the rows of the stations 2 .. M
abbrev pub Unfilled : Terms → (tally : List ℕ) → Type 0
Unfilled t tally = (s n : ℕ) → Within 2 t.farm.stations s → Page t.farm.pages n → signature_in tally t.farm.pages s n ≡ 0

-- the check closed with this verdict as these outcomes end: rows that are filled are the tally's, and else there are none but the own copy's
abbrev pub ClosedAs : Terms → (tally : List ℕ) → (Outcome → Type 0) → Verdict → Type 0
ClosedAs t tally Ends = ClosesBy t.farm.stations t.farm.pages Ends (Unfilled t tally) (Same t.farm.stations t.farm.pages (signature_in tally t.farm.pages))

-- What weighing and settling came to is what the rules say of T and P: weighing closed the check, or it named the station that is asked again,
-- and settling then closed it.
module _ (f : Ops) (t : Terms) (T P : Table) where
  abbrev pub AsksBy : ℕ → Type 0
  AsksBy k = (¬ PlainTerms t) × Weighs f t.farm.stations t.farm.pages t.farm.bound T (P 1) (asks k)

  abbrev pub SettlesBy : Outcome → Type 0
  SettlesBy o = Settles f t.farm.stations t.farm.pages t.farm.bound T T (P 1) o

  abbrev pub JudgedBy : (tally : List ℕ) → Stage → Type 0
  JudgedBy tally first = Unit {0}
  JudgedBy tally (second k) = AsksBy k
  JudgedBy tally (closed ByWeighing v) = ClosedAs t tally (WeighsBy f t T P) v
  JudgedBy tally (closed (BySettling k) v) = AsksBy k × ClosedAs t tally SettlesBy v

-- At every moment of every run: an asking is over only when all that it asks for was replied to, and nothing else ever was. If the calls share one tally, its
-- rows are as told; and weighing and settling did what the rules say of any tables that are as told, so of the accepted replies alone. Of the stations
-- nothing is supposed.
abbrev pub RepliesJudged : Type 0
RepliesJudged =
    (f : Ops) → Laws f → Spread f → (own tally : List ℕ) (ks : List Call) (b : Book) (g : Stage) → Run f own tally ks b g →
    AllReplied ks b.terms g × OnlyReplied f ks b.terms g
    × ((last : List ℕ) → OneTally tally ks last →
    AsTold f own b.terms ks (sum_in last b.terms.farm.pages) (signature_in last b.terms.farm.pages)
    × ((T P : Table) → AsTold f own b.terms ks T P → JudgedBy f b.terms T P last g))

-- ── two checks

-- the same terms, but for the number
abbrev pub SameFarm : (t t' : Terms) → Type 0
SameFarm t t' = (t'.farm.stations ≡ t.farm.stations) × (t'.farm.pages ≡ t.farm.pages) × (t'.farm.bound ≡ t.farm.bound)

-- what was replied among ks' was replied among ks
abbrev pub AmongReplies : (ks' ks : List Call) → Type 0
AmongReplies ks' ks = (asked : Asked) (s i v : ℕ) → Replied ks' asked s i v → Replied ks asked s i v

-- these calls closed the check, and one tally served them all
pub record ClosedRun (f : Ops) (own : List ℕ) (ks : List Call) (b : Book) (way : Way) (v : Verdict) (last : List ℕ) : Type 0 where
  pub opened : List ℕ
  pub run : Run f own opened ks b (closed way v)
  pub one : OneTally opened ks last

-- Two checks on the same terms but for the number, over the same own copy, closed where the accepted replies of one are replies of the other: they asked
-- the same station again, or both none, closed with the same verdict, and left the same signatures in their rows.
abbrev pub RepliesDecide : Type 0
RepliesDecide =
    (f : Ops) → Laws f → Spread f → (own : List ℕ) (ks ks' : List Call) (b b' : Book) (way way' : Way) (v v' : Verdict) (last last' : List ℕ) →
    ClosedRun f own ks b way v last → ClosedRun f own ks' b' way' v' last' → SameFarm b.terms b'.terms → AmongReplies ks' ks →
    (way' ≡ way) × (v' ≡ v)
    × Same b.terms.farm.stations b.terms.farm.pages (signature_in last' b'.terms.farm.pages) (signature_in last b.terms.farm.pages)
