-- What an exchange with a station leaves: its reply is in, the counts are one slip further, and the run is three calls longer.
use Rattle.std.proofs.Common.{◌≡◌, ℕ, ◌+◌, ◌<◌, ◌≢◌, List, ◌∷◌, length, Ok, Option, sym, refl, ap, ◌∙◌, arith}
use Rattle.field.specs.Field.{Ops}
use Rattle.wire.specs.Reading.{reply_words}
use Rattle.wire.specs.Requests.{values_due}
use Rattle.station.specs.Serving.{answers}
use Rattle.calls.specs.declared.book.Book.{Book}
use Rattle.calls.specs.declared.standing.Standing.TheVariants.{Out, Heard, Done}
use Rattle.calls.specs.declared.slip.Returned.TheVariants.{Answered}
use Rattle.calls.specs.Slips.{standing}
use Rattle.calls.specs.Runs.{Stage, Call, slip, take, return, AsksOnly, Run, called, slips, takes, returns}
use Rattle.calls.specs.Steady.{Steady}
use Rattle.calls.specs.Promise.{taken_by, all_calls}
use Rattle.calls.proofs.StandingsSet.{standing_other, standing_same}
use Rattle.calls.proofs.ValuesPerReply.{values_after_header}
use Rattle.desk.specs.Exchange.{Exchange}

module _ {f : Ops} {row : List ℕ} {only : Option ℕ} {s : ℕ} {b : Book} {before : List ℕ} {b' : Book} {after : List ℕ}
    (x : Exchange f row only s b before b' after) where
  pub terms_kept : b'.terms ≡ b.terms
  terms_kept = x.returns.1.keeps.terms ∙ x.takes.1.keeps.terms ∙ x.slips.1.keeps.terms

  pub question_kept : b'.question ≡ b.question
  question_kept = x.returns.1.keeps.question ∙ x.takes.1.keeps.question ∙ x.slips.1.keeps.question

  pub size_kept : length after ≡ length before
  size_kept = x.takes.1.entered.size

  -- the slip's request names the station
  pub station_is : x.slip.request.station ≡ s
  station_is = x.slips.1.request.1

  pub handed_more : b'.counts.handed ≡ b.counts.handed + 1
  handed_more = ap (λ c. c.handed) (x.returns.1.counts) ∙ ap (λ c. c.handed) (x.takes.1.counts) ∙ ap (λ c. c.handed) (x.slips.1.counts)

  inside : x.slip.request.station < length x.taken.standings
  inside = let within = x.slips.0.1.0 in omega (arith, x.taken.full, b.terms.farm.stations_in, within, station_is)

  pub heard : standing b' s ≡ Done
  heard =
      ap (standing b') (sym station_is) ∙ standing_same x.taken.standings x.slip.request.station Done x.returns.1.standings inside

  pub others_stay : (t : ℕ) → t ≢ s → standing b' t ≡ standing b t
  others_stay t d =
      let off : t ≢ x.slip.request.station = λ e. d (e ∙ station_is) in
      standing_other x.taken.standings x.slip.request.station Done x.returns.1.standings t off
      ∙ standing_other x.handed.standings x.slip.request.station Heard x.takes.1.standings t off
      ∙ standing_other b.standings s Out x.slips.1.standings t d

  -- the three calls, the newest first
  abbrev pub three_calls : List Call → List Call
  three_calls ks =
      return x.slip (Ok Answered) ∷ take x.slip x.reply before (Ok _) after ∷ slip s x.blank (Ok x.slip) x.request ∷ ks

  -- they take as many values as the request asks for
  pub taken_more : (ks : List Call) → all_calls taken_by (three_calls ks) ≡ all_calls taken_by ks + values_due x.slip.request
  taken_more ks =
      let words = values_after_header f x.slip.request x.reply x.takes.1.values x.takes.1.reply in
      let count = x.takes.1.reply.count in
      omega (arith, words, count)

  module _ (own opened : List ℕ) (ks : List Call) where
    pub run_longer : {g : Stage} → AsksOnly g only → Run f own opened ks b g → Run f own opened (three_calls ks) b' g
    run_longer asks run =
        called (called (called run (slips only asks x.slips)) (takes only asks x.takes)) (returns x.returns)

    pub steady_longer : (holds : ℕ → List ℕ) → holds s ≡ row → Steady f holds own opened ks before → Steady f holds own opened (three_calls ks) after
    steady_longer holds is steady =
        let words = x.replies ∙ ap (λ row. reply_words x.slip.request (answers f row x.slip.request)) (sym (ap holds station_is ∙ is)) in
        (steady.0, (refl, steady.1), (tt, (words, (tt, steady.2))))
