-- What is known where a call is accepted: the rules of its list, by name.
use Rattle.std.proofs.Common.{◌≡◌, ℕ, ◌-◌, ◌^◌, ◌<◌, ◌≤◌, List, length, Some, Option, arith}
use Rattle.field.specs.Field.{Ops, page_limit}
use Rattle.refusal.specs.Rules.{Within, Accepted}
use Rattle.wire.specs.declared.request.Request.{Request}
use Rattle.wire.specs.Reading.{reading_reply}
use Rattle.tally.specs.Rows.{tally_size}
use Rattle.calls.specs.declared.standing.Standing.TheVariants.{Free, Out, Done}
use Rattle.calls.specs.declared.terms.Terms.{Terms}
use Rattle.calls.specs.declared.book.Book.{Book}
use Rattle.calls.specs.declared.phases.Verdict.{Verdict}
use Rattle.calls.specs.declared.phases.Verdict.TheVariants.{Report}
use Rattle.calls.specs.Opening.{opening}
use Rattle.calls.specs.Slips.{standing, Concerns, OutHere, slipping, taking, returning}
use Rattle.calls.specs.Closing.{StillOut, closing}
use Rattle.calls.specs.Listing.{listing}
use Rattle.calls.proofs.StandingsSet.{free_if, out_if, done_if}

pub record OpenCleared (f : Ops) (number M N bound own room : ℕ) : Type 0 where
  pub number_in : Within 1 (2 ^ 28 - 1) number
  pub stations : Within 3 8 M
  pub pages : Within 1 (page_limit f) N
  pub bound_in : Within 1 64 bound
  pub whole : own ≡ N
  pub room_for : tally_size M N ≤ room

pub open_cleared : (f : Ops) (number M N bound own room : ℕ) → Accepted (opening f number M N bound own room) → OpenCleared f number M N bound own room
open_cleared f number M N bound own room a = record {
  number_in = a.0;
  stations = a.1.0;
  pages = a.1.1.0;
  bound_in = a.1.1.1.0;
  whole = a.1.1.1.1.0;
  room_for = a.1.1.1.1.1.0;
}

pub record SlipCleared (b : Book) (only : Option ℕ) (s room : ℕ) : Type 0 where
  pub room_for : 4 ≤ room
  pub station : Within 2 b.terms.farm.stations s
  pub concerned : Concerns only s
  pub free : standing b s ≡ Free
  pub few : b.counts.handed < 2 ^ 32 - 1

pub slip_cleared : (b : Book) (only : Option ℕ) (s room : ℕ) → Accepted (slipping b only s room) → SlipCleared b only s room
slip_cleared b only s room a = record {
  room_for = a.0;
  station = a.1.0;
  concerned = a.1.1.0;
  free = free_if (standing b s) a.1.1.1.0 a.1.1.1.1.0;
  few = a.1.1.1.1.1.0;
}

pub record TakeCleared (f : Ops) (b : Book) (q : Request) (words : List ℕ) (room : ℕ) : Type 0 where
  pub room_for : tally_size b.terms.farm.stations b.terms.farm.pages ≤ room
  pub here : OutHere b q
  pub asked : standing b q.station ≡ Out
  pub reads : Accepted (reading_reply f q words)

pub take_cleared : (f : Ops) (b : Book) (q : Request) (words : List ℕ) (room : ℕ) → Accepted (taking f b q words room) → TakeCleared f b q words room
take_cleared f b q words room a = record {
  room_for = a.0;
  here = a.1.0;
  asked = out_if (standing b q.station) a.1.0.1 a.1.1.0;
  reads = a.1.1.1;
}

pub return_cleared : (b : Book) (q : Request) → Accepted (returning b q) → OutHere b q
return_cleared b q a = a.0

pub record CloseCleared (b : Book) (room : ℕ) : Type 0 where
  pub room_for : tally_size b.terms.farm.stations b.terms.farm.pages ≤ room
  pub none_out : (s : ℕ) → ¬ StillOut b s
  pub done : (s : ℕ) → Within 2 b.terms.farm.stations s → standing b s ≡ Done

pub close_cleared : (b : Book) (room : ℕ) → Accepted (closing b room) → CloseCleared b room
close_cleared b room a = record {
  room_for = a.0;
  none_out = λ s out. a.1.0 s (omega (arith, out.0)) out;
  done = λ s within. done_if (standing b s) (λ lacking. a.1.1.0 s (omega (arith, within)) (within, lacking));
}

pub record ListCleared (t : Terms) (found : Option Verdict) (s : ℕ) (tally : List ℕ) : Type 0 where
  pub room_for : tally_size t.farm.stations t.farm.pages ≤ length tally
  pub report : found ≡ Some Report
  pub station : Within 1 t.farm.stations s

pub list_cleared : (t : Terms) (found : Option Verdict) (s : ℕ) (tally : List ℕ) (room : ℕ) → Accepted (listing t found s tally room) → ListCleared t found s tally
list_cleared t found s tally room a = record { room_for = a.0; report = a.1.0; station = a.1.1.0 }
