-- Weighing and settling: what is refused, how the check closes or asks again, and what the tally then holds.
use Rattle.std.specs.Prelude.{◌≡◌, ℕ, ◌≤◌, ◌⊎◌, List, [], ◌∷◌, length, Ok, Err, Result, ◌≢◌, slice_set}
use Rattle.field.specs.Field.{Ops}
use Rattle.field.specs.declared.Field.{Ghosts}
use Rattle.refusal.specs.declared.Refusal.{Refusal}
use Rattle.refusal.specs.Rules.{Rule, Within, unless, lowest, Refused, Accepted}
use Rattle.scheme.specs.Farm.{Table, Same}
use Rattle.scheme.specs.Askings.{Outcome, over, split, filled, asks}
use Rattle.scheme.specs.Closing.{Splits, Reports}
use Rattle.scheme.specs.Weighing as rules
use Rattle.tally.specs.Rows.{sum_in, signature_in, Filled, tally_size}
use Rattle.verdict.specs.Judging.{Comes}
use Rattle.calls.specs.declared.standing.Standing.TheVariants.{Free, Done}
use Rattle.calls.specs.declared.terms.Terms.{Terms}
use Rattle.calls.specs.declared.book.Book.{Book}
use Rattle.calls.specs.declared.phases.Verdict.{Verdict}
use Rattle.calls.specs.declared.phases.Verdict.TheVariants.{Report, Split, Over}
use Rattle.calls.specs.declared.phases.First.{First}
use Rattle.calls.specs.declared.phases.Second.{Second}
use Rattle.calls.specs.declared.phases.Closed.{Closed}
use Rattle.calls.specs.declared.check.Check.{Check}
use Rattle.calls.specs.declared.weighed.Weighed.{Weighed}
use Rattle.calls.specs.declared.weighed.Weighed.TheVariants as weighed
use Rattle.calls.specs.declared.weighed.Declined.{Declined}
use Rattle.calls.specs.Standings.{SlipOut}
use Rattle.calls.specs.Questions.{PlainTerms, SecondAsks}
use Rattle.calls.specs.Slips.{standing}

-- the slip of station s is out; its reply is lacking
abbrev pub StillOut : Book → ℕ → Type 0
StillOut b s = Within 2 b.terms.farm.stations s × SlipOut (standing b s)

abbrev pub Lacking : Book → ℕ → Type 0
Lacking b s = Within 2 b.terms.farm.stations s × (standing b s ≢ Done)

-- a short tally, the lowest station whose slip is out, then the lowest whose reply is lacking
abbrev pub closing : Book → (room : ℕ) → List Rule
closing b room = unless (tally_size b.terms.farm.stations b.terms.farm.pages ≤ room) 2 1 ∷ lowest (StillOut b) 4 ∷ lowest (Lacking b) 7 ∷ []

-- what weighing comes to where the sums T and the rows P are told: in a plain check the rows at hand, else what the rules say of the first sums
abbrev pub WeighsBy : Ops → Terms → (T P : Table) → Outcome → Type 0
WeighsBy f t T P o =
    ((R : Table) × (o ≡ filled R) × PlainTerms t × Same t.farm.stations t.farm.pages R P)
    ⊎ ((¬ PlainTerms t) × rules.Weighs f t.farm.stations t.farm.pages t.farm.bound T (P 1) o)

module _ (f : Ops) (t : Terms) (tally : List ℕ) where
  -- by what stands in the tally
  abbrev pub WeighEnds : Outcome → Type 0
  WeighEnds = WeighsBy f t (sum_in tally t.farm.pages) (signature_in tally t.farm.pages)

  -- what settling comes to: what the rules say of all sums
  abbrev pub SettleEnds : Outcome → Type 0
  SettleEnds o = Comes f t.farm.stations t.farm.pages t.farm.bound tally tally o

-- How a check closes, by what the rules end in: over or a split at once, with the tally as it was; or on rows that are filled, with the tally as they make it.
module _ (M N : ℕ) (Ends : Outcome → Type 0) (Kept : Type 0) (Made : Table → Type 0) where
  abbrev pub ClosesBy : Verdict → Type 0
  ClosesBy Over = Ends over × Kept
  ClosesBy (Split n) = (Ends (split n) × Kept) ⊎ ((R : Table) × Ends (filled R) × Made R × Splits M N R n)
  ClosesBy Report = (R : Table) × Ends (filled R) × Made R × Reports M N R

-- by what the tally holds before and after: the rows that are filled are written, and else nothing is
abbrev pub ClosesWith : (Outcome → Type 0) → (M N : ℕ) → (before after : List ℕ) → Verdict → Type 0
ClosesWith Ends M N before after = ClosesBy M N Ends (after ≡ before) (Filled M N before after)

-- the check closes with verdict v and keeps its book
pub record WeighCloses (f : Ops) (b : Book) (before : List ℕ) (v : Verdict) (b' : Book) (after : List ℕ) : Type 0 where
  pub accepted : Accepted (closing b (length before))
  pub finds : ClosesWith (WeighEnds f b.terms before) b.terms.farm.stations b.terms.farm.pages before after v
  pub book : b' ≡ b

-- the second asking is for the sums that are left, and begins for station k afresh
pub record Again (b : Book) (k : ℕ) (b' : Book) : Type 0 where
  pub terms : b'.terms ≡ b.terms
  pub question : SecondAsks b.terms b'.question
  pub standings : b'.standings ≡ slice_set b.standings k Free
  pub counts : b'.counts ≡ b.counts

-- station k is to be asked again; nothing is written
pub record WeighAsks (f : Ops) (b : Book) (before : List ℕ) (k : ℕ) (b' : Book) (after : List ℕ) : Type 0 where
  pub accepted : Accepted (closing b (length before))
  pub ends : WeighEnds f b.terms before (asks k)
  pub again : Again b k b'
  pub written : after ≡ before

pub record SettleCloses (f : Ops) (b : Book) (before : List ℕ) (v : Verdict) (b' : Book) (after : List ℕ) : Type 0 where
  pub accepted : Accepted (closing b (length before))
  pub finds : ClosesWith (SettleEnds f b.terms before) b.terms.farm.stations b.terms.farm.pages before after v
  pub book : b' ≡ b

-- refused: the check and the tally are what they were
abbrev pub NotClosed : Book → (before : List ℕ) → Refusal → Book → (after : List ℕ) → Type 0
NotClosed b before refusal b' after = Refused (closing b (length before)) refusal × (b' ≡ b) × (after ≡ before)

-- ── the same of checks by their types

abbrev pub Weighing : {F : Type 0} {g : Ghosts F} → Ops → Check F First g → (before : List ℕ)
    → Result (Weighed F g) (Declined (Check F First g)) → (after : List ℕ) → Type 0
Weighing f c before (Ok (weighed.Closes d)) after = WeighCloses f c.book before d.phase.verdict d.book after
Weighing f c before (Ok (weighed.Asks d)) after = WeighAsks f c.book before d.phase.station d.book after
Weighing f c before (Err e) after = NotClosed c.book before e.refusal e.check.book after

abbrev pub Settling : {F : Type 0} {g : Ghosts F} → Ops → Check F Second g → (before : List ℕ)
    → Result (Check F Closed g) (Declined (Check F Second g)) → (after : List ℕ) → Type 0
Settling f c before (Ok d) after = SettleCloses f c.book before d.phase.verdict d.book after
Settling f c before (Err e) after = NotClosed c.book before e.refusal e.check.book after × (e.check.phase ≡ c.phase)
