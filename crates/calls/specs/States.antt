-- What the states of a slip mean: which of the accepted calls about its request is the newest.
use Rattle.std.specs.Prelude.{◌≡◌, ℕ, ◌⊎◌, ◌↔◌, List, [], ◌∷◌, Ok}
use Rattle.refusal.specs.Rules.{Within}
use Rattle.wire.specs.declared.request.Request.{Request}
use Rattle.wire.specs.Requests.{Same}
use Rattle.calls.specs.declared.standing.Standing.TheVariants.{Heard, Done}
use Rattle.calls.specs.declared.slip.Returned.{Returned}
use Rattle.calls.specs.declared.slip.Returned.TheVariants.{Answered}
use Rattle.calls.specs.declared.book.Book.{Book}
use Rattle.calls.specs.Slips.{standing, OfAsking, OutHere}
use Rattle.calls.specs.Runs.{Stage, first, second, closed, Call, slip, take, return}

-- ── what an accepted call does about the request q

-- it hands out a slip with that request
abbrev pub IsSlip : Call → Request → Type 0
IsSlip (slip s w (Ok p) w') q = Same p.request q
IsSlip _ q = ⊥

-- it takes a reply to it
abbrev pub IsReply : Call → Request → Type 0
IsReply (take p w t (Ok u) t') q = Same p.request q
IsReply _ q = ⊥

-- its slip is returned, and says so
abbrev pub IsReturn : Returned → Call → Request → Type 0
IsReturn said (return p (Ok r)) q = Same p.request q × (r ≡ said)
IsReturn said _ q = ⊥

-- any of these
abbrev pub IsAbout : Call → Request → Type 0
IsAbout (slip s w (Ok p) w') q = Same p.request q
IsAbout (take p w t (Ok u) t') q = Same p.request q
IsAbout (return p (Ok r)) q = Same p.request q
IsAbout _ q = ⊥

-- the newest accepted call about q does this; the newest call stands first
abbrev pub Newest : (Call → Request → Type 0) → List Call → Request → Type 0
Newest Does [] q = ⊥
Newest Does (c ∷ ks) q = Does c q ⊎ ((¬ IsAbout c q) × Newest Does ks q)

-- ── states

-- a slip with request q is out, and no reply to it was taken
abbrev pub AskedBy : List Call → Request → Type 0
AskedBy ks q = Newest IsSlip ks q

-- a slip with request q is out, and a reply to it was taken
abbrev pub HeardBy : List Call → Request → Type 0
HeardBy ks q = Newest IsReply ks q

-- the slip came back answered
abbrev pub DoneBy : List Call → Request → Type 0
DoneBy ks q = Newest (IsReturn Answered) ks q

-- station s is asked at this stage
abbrev pub AskedAt : Stage → ℕ → Type 0
AskedAt first s = Unit {0}
AskedAt (second k) s = k ≡ s
AskedAt (closed way v) s = ⊥

-- each accepted return said "answered" exactly if a reply to its request was taken since its slip was handed out
abbrev pub SaidRight : List Call → Type 0
SaidRight [] = Unit {0}
SaidRight (return p (Ok r) ∷ ks) = ((r ≡ Answered) ↔ HeardBy ks p.request) × SaidRight ks
SaidRight (c ∷ ks) = SaidRight ks

-- What a check knows of its slips is what was done about their requests. A slip with request q is out here, and its station heard, by the newest
-- accepted call about q; of this asking's requests to stations that are asked those are done whose slip came back answered; the other stations are done.
pub record SlipsKnown (ks : List Call) (b : Book) (g : Stage) : Type 0 where
  pub out : (q : Request) → OutHere b q ↔ (AskedBy ks q ⊎ HeardBy ks q)
  pub heard : (q : Request) → (OutHere b q × (standing b q.station ≡ Heard)) ↔ HeardBy ks q
  pub done : (q : Request) → AskedAt g q.station → OfAsking b q.station q → (standing b q.station ≡ Done) ↔ DoneBy ks q
  pub others : (s : ℕ) → Within 2 b.terms.farm.stations s → ¬ AskedAt g s → standing b s ≡ Done
  pub said : SaidRight ks
