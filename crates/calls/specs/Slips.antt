-- Slips: handing one out, taking a reply under it, and its return.
use Rattle.std.specs.Prelude.{◌≡◌, ℕ, ◌+◌, ◌-◌, ◌^◌, ◌<◌, ◌≤◌, List, [], ◌∷◌, ◌++◌, length, drop, Some, None, Ok, Err, Option, Result, slice_set}
use Rattle.field.specs.Field.{Ops}
use Rattle.refusal.specs.declared.Refusal.{Refusal}
use Rattle.refusal.specs.Rules.{Rule, Within, unless, when, Refused, Accepted}
use Rattle.wire.specs.declared.request.Request.{Request}
use Rattle.wire.specs.Requests.{Holds, request_words}
use Rattle.wire.specs.Reading.{reading_reply, Reply}
use Rattle.tally.specs.Rows.{tally_size}
use Rattle.calls.specs.declared.standing.Standing.{Standing}
use Rattle.calls.specs.declared.standing.Standing.TheVariants.{Free, Out, Heard, Done}
use Rattle.calls.specs.declared.counts.Counts.{Counts}
use Rattle.calls.specs.declared.book.Book.{Book}
use Rattle.calls.specs.declared.slip.Slip.{Slip}
use Rattle.calls.specs.declared.slip.Returned.{Returned}
use Rattle.calls.specs.declared.slip.Returned.TheVariants.{Answered, Blank}
use Rattle.calls.specs.Standings.{standing_of, SlipOut}
use Rattle.calls.specs.Entering.{Entered}

-- where station s stands in the check
abbrev pub standing : Book → ℕ → Standing
standing b s = standing_of b.standings s

-- q is the request of this asking to station s
abbrev pub OfAsking : Book → ℕ → Request → Type 0
OfAsking b s q = Holds q b.terms.number s b.question.asked b.question.first b.question.last

-- a slip with this request is out here
abbrev pub OutHere : Book → Request → Type 0
OutHere b q = OfAsking b q.station q × SlipOut (standing b q.station)

-- the terms and the question stay
pub record Keeps (b b' : Book) : Type 0 where
  pub terms : b'.terms ≡ b.terms
  pub question : b'.question ≡ b.question

-- ── handing out

-- in the second asking one station alone is asked
abbrev pub Concerns : Option ℕ → ℕ → Type 0
Concerns None s = Unit {0}
Concerns (Some k) s = k ≡ s

-- a short buffer, no such station, not the second asking's, a slip that is out, a reply that is in, then too many slips
abbrev pub slipping : Book → Option ℕ → (s room : ℕ) → List Rule
slipping b only s room =
    unless (4 ≤ room) 2 2 ∷ unless (Within 2 b.terms.farm.stations s) 3 s ∷ unless (Concerns only s) 6 s ∷ when (SlipOut (standing b s)) 4 s
    ∷ when (standing b s ≡ Done) 5 s ∷ unless (b.counts.handed < 2 ^ 32 - 1) 11 0 ∷ []

abbrev pub one_handed : Counts → Counts
one_handed c = record { handed = c.handed + 1; answered = c.answered; blank = c.blank; out = c.out + 1; taken = c.taken }

-- the slip has the request, whose words are written; the station's slip is out
pub record HandsOut (b : Book) (s : ℕ) (before : List ℕ) (slip : Slip) (b' : Book) (after : List ℕ) : Type 0 where
  pub request : OfAsking b s slip.request
  pub written : after ≡ request_words slip.request ++ drop 4 before
  pub keeps : Keeps b b'
  pub standings : b'.standings ≡ slice_set b.standings s Out
  pub counts : b'.counts ≡ one_handed b.counts

abbrev pub Slips : Book → Option ℕ → (s : ℕ) → (before : List ℕ) → Result Slip Refusal → Book → (after : List ℕ) → Type 0
Slips b only s before (Ok slip) b' after = Accepted (slipping b only s (length before)) × HandsOut b s before slip b' after
Slips b only s before (Err refusal) b' after = Refused (slipping b only s (length before)) refusal × (b' ≡ b) × (after ≡ before)

-- ── taking

-- a short tally, a stray slip, a reply that is in; then what is garbled, and what is foreign
abbrev pub taking : Ops → Book → Request → (words : List ℕ) → (room : ℕ) → List Rule
taking f b q words room =
    unless (tally_size b.terms.farm.stations b.terms.farm.pages ≤ room) 2 1 ∷ unless (OutHere b q) 10 q.station ∷ when (standing b q.station ≡ Heard) 5 q.station
    ∷ reading_reply f q words

abbrev pub more_taken : ℕ → Counts → Counts
more_taken n c = record { handed = c.handed; answered = c.answered; blank = c.blank; out = c.out; taken = c.taken + n }

-- the values of the reply stand in the row of the slip's station, and they are counted
pub record TakesIn (f : Ops) (b : Book) (q : Request) (words before : List ℕ) (b' : Book) (after : List ℕ) : Type 0 where
  pub values : List ℕ
  pub reply : Reply f q words values
  pub entered : Entered b.terms.farm.pages q values before after
  pub keeps : Keeps b b'
  pub standings : b'.standings ≡ slice_set b.standings q.station Heard
  pub counts : b'.counts ≡ more_taken (length values) b.counts

abbrev pub Takes : Ops → Book → Request → (words before : List ℕ) → Result (Unit {0}) Refusal → Book → (after : List ℕ) → Type 0
Takes f b q words before (Ok u) b' after = Accepted (taking f b q words (length before)) × TakesIn f b q words before b' after
Takes f b q words before (Err refusal) b' after = Refused (taking f b q words (length before)) refusal × (b' ≡ b) × (after ≡ before)

-- ── returning

abbrev pub returning : Book → Request → List Rule
returning b q = unless (OutHere b q) 10 q.station ∷ []

-- what a slip comes back as: answered if a reply was taken
abbrev pub returned_as : Standing → Returned
returned_as Free = Blank
returned_as Out = Blank
returned_as Heard = Answered
returned_as Done = Blank

-- where its station stands then
abbrev pub standing_after : Returned → Standing
standing_after Answered = Done
standing_after Blank = Free

abbrev pub one_back : Returned → Counts → Counts
one_back Answered c = record { handed = c.handed; answered = c.answered + 1; blank = c.blank; out = c.out - 1; taken = c.taken }
one_back Blank c = record { handed = c.handed; answered = c.answered; blank = c.blank + 1; out = c.out - 1; taken = c.taken }

pub record ComesBack (b : Book) (q : Request) (r : Returned) (b' : Book) : Type 0 where
  pub says : r ≡ returned_as (standing b q.station)
  pub keeps : Keeps b b'
  pub standings : b'.standings ≡ slice_set b.standings q.station (standing_after r)
  pub counts : b'.counts ≡ one_back r b.counts

-- a refused return changes nothing here; its slip has ended all the same
abbrev pub Returns : Book → Request → Result Returned Refusal → Book → Type 0
Returns b q (Ok r) b' = Accepted (returning b q) × ComesBack b q r b'
Returns b q (Err refusal) b' = Refused (returning b q) refusal × (b' ≡ b)
