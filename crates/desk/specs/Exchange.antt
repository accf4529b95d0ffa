-- One exchange with a station: a slip, the station's own answer taken under it, and the slip's return.
use Rattle.std.specs.Prelude.{◌≡◌, ℕ, ◌<◌, ◌≤◌, ◌-◌, ◌^◌, List, Ok, Option}
use Rattle.field.specs.Field.{Ops}
use Rattle.refusal.specs.Rules.{Within}
use Rattle.wire.specs.Reading.{reply_words}
use Rattle.station.specs.Serving.{answers, index_limit}
use Rattle.tally.specs.Rows.{tally_size}
use Rattle.calls.specs.declared.book.Book.{Book}
use Rattle.calls.specs.declared.slip.Slip.{Slip}
use Rattle.calls.specs.declared.slip.Returned.TheVariants.{Answered}
use Rattle.calls.specs.declared.standing.Standing.TheVariants.{Free}
use Rattle.calls.specs.Slips.{Slips, Takes, Returns, Concerns, standing}

-- a slip can be handed out for station s, its station answers the question, and the reply fits the tally
pub record Ready (row : List ℕ) (only : Option ℕ) (s : ℕ) (b : Book) (room : ℕ) : Type 0 where
  pub station : Within 2 b.terms.farm.stations s
  pub concerned : Concerns only s
  pub free : standing b s ≡ Free
  pub few : b.counts.handed < 2 ^ 32 - 1
  pub rising : b.question.first ≤ b.question.last
  pub answered : b.question.last ≤ index_limit b.question.asked row
  pub short : b.question.last ≤ 128
  pub fits : tally_size b.terms.farm.stations b.terms.farm.pages ≤ room

-- what the three calls make of a check and its tally
pub record Exchange (f : Ops) (row : List ℕ) (only : Option ℕ) (s : ℕ) (b : Book) (before : List ℕ) (b' : Book) (after : List ℕ) : Type 0 where
  pub slip : Slip
  pub blank : List ℕ
  pub request : List ℕ
  pub reply : List ℕ
  pub handed : Book
  pub taken : Book
  pub slips : Slips b only s blank (Ok slip) handed request
  pub replies : reply ≡ reply_words slip.request (answers f row slip.request)
  pub takes : Takes f handed slip.request reply before (Ok _) taken after
  pub returns : Returns taken slip.request (Ok Answered) b'
