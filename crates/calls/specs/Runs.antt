-- Runs of calls on one check, by the very relations that the calls' contracts cite.
use Rattle.std.specs.Prelude.{◌≡◌, ℕ, List, [], ◌∷◌, Some, None, Option, Result}
use Rattle.field.specs.Field.{Ops}
use Rattle.refusal.specs.declared.Refusal.{Refusal}
use Rattle.calls.specs.declared.book.Book.{Book}
use Rattle.calls.specs.declared.slip.Slip.{Slip}
use Rattle.calls.specs.declared.slip.Returned.{Returned}
use Rattle.calls.specs.declared.phases.Verdict.{Verdict}
use Rattle.calls.specs.declared.phases.Way.{Way}
use Rattle.calls.specs.declared.phases.Way.TheVariants.{ByWeighing, BySettling}
use Rattle.calls.specs.Opening.{Opens}
use Rattle.calls.specs.Slips.{Slips, Takes, Returns}
use Rattle.calls.specs.Closing.{WeighCloses, WeighAsks, SettleCloses, NotClosed}
use Rattle.calls.specs.Listing.{Listing}

-- how far a check is: in the first asking; in the second, of station k; or closed with a verdict, after a second asking or without one
pub data Stage : Type 0 where
  first : Stage
  second : (k : ℕ) → Stage
  closed : (way : Way) → Verdict → Stage

-- an asking, and the one station that is asked if not all are; a closed check asks nobody
abbrev pub AsksOnly : Stage → Option ℕ → Type 0
AsksOnly first only = only ≡ None
AsksOnly (second k) only = only ≡ Some k
AsksOnly (closed way v) only = ⊥

-- the verdict, once the check is closed
abbrev pub found : Stage → Option Verdict
found first = None
found (second k) = None
found (closed way v) = Some v

-- A call with its inputs and its answer; of a tally and a buffer, what it held before the call and after it.
pub data Call : Type 0 where
  slip : (s : ℕ) → (request : List ℕ) → Result Slip Refusal → (request' : List ℕ) → Call
  take : Slip → (words tally : List ℕ) → Result (Unit {0}) Refusal → (tally' : List ℕ) → Call
  return : Slip → Result Returned Refusal → Call
  weigh : (tally tally' : List ℕ) → Call
  settle : (tally tally' : List ℕ) → Call
  list : (s : ℕ) → (tally out : List ℕ) → Result ℕ Refusal → (out' : List ℕ) → Call

-- One call takes a check from what it was to what it is then.
pub data Step (f : Ops) : Book → Stage → Call → Book → Stage → Type 0 where
  slips : {b b' : Book} {g : Stage} (only : Option ℕ) {s : ℕ} {q q' : List ℕ} {r : Result Slip Refusal}
      → AsksOnly g only → Slips b only s q r b' q' → Step f b g (slip s q r q') b' g
  takes : {b b' : Book} {g : Stage} (only : Option ℕ) {p : Slip} {w t t' : List ℕ} {r : Result (Unit {0}) Refusal}
      → AsksOnly g only → Takes f b p.request w t r b' t' → Step f b g (take p w t r t') b' g
  returns : {b b' : Book} {g : Stage} {p : Slip} {r : Result Returned Refusal}
      → Returns b p.request r b' → Step f b g (return p r) b' g
  weigh_closes : {b b' : Book} {v : Verdict} {t t' : List ℕ} → WeighCloses f b t v b' t' → Step f b first (weigh t t') b' (closed ByWeighing v)
  weigh_asks : {b b' : Book} {k : ℕ} {t t' : List ℕ} → WeighAsks f b t k b' t' → Step f b first (weigh t t') b' (second k)
  weigh_refused : {b b' : Book} {t t' : List ℕ} (e : Refusal) → NotClosed b t e b' t' → Step f b first (weigh t t') b' first
  settle_closes : {b b' : Book} {k : ℕ} {v : Verdict} {t t' : List ℕ} → SettleCloses f b t v b' t' → Step f b (second k) (settle t t') b' (closed (BySettling k) v)
  settle_refused : {b b' : Book} {k : ℕ} {t t' : List ℕ} (e : Refusal) → NotClosed b t e b' t' → Step f b (second k) (settle t t') b' (second k)
  lists : {b : Book} {g : Stage} {s : ℕ} {t o o' : List ℕ} {r : Result ℕ Refusal}
      → Listing b.terms (found g) s t o r o' → Step f b g (list s t o r o') b g

-- How the check was opened, over the own copy's row, and the calls since, the newest first; tally is what opening left.
pub data Run (f : Ops) (own tally : List ℕ) : List Call → Book → Stage → Type 0 where
  opened : {number M N bound : ℕ} {t : List ℕ} {b : Book} → Opens f own number M N bound t b tally → Run f own tally [] b first
  called : {ks : List Call} {c : Call} {b b' : Book} {g g' : Stage} → Run f own tally ks b g → Step f b g c b' g' → Run f own tally (c ∷ ks) b' g'
