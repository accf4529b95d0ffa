use Rattle.std.proofs.Common.{◌≡◌, ◌+◌, ap, sym, subst, arith}
use Rattle.station.specs.Kinds.{card_row}
use Rattle.desk.specs.Going.{Going}
use Rattle.desk.proofs.CardsHeld.{card_size}
use Rattle.desk.proofs.Rounds.{ready, going_on}
use Rattle.desk.proofs.round.ask_all.Goals as goal

pub loop-station-init : goal.loop-station-init
loop-station-init g c = (omega (arith, c.args.farm.now.stations_in), λ before going. going)

pub ask-requires : goal.ask-requires
ask-requires g c =
    let farm = c.args.farm.now in
    let words = c.args.words.now in
    let f = g.F.Field.ops in
    rw c.card_of-card.ensures
    (ready f farm.stations farm.pages farm.bound words c.requires.going.0 c.loop-station.station c.loop-station.check.book c.loop-station.tally
    (c.loop-station.invariant.1 c.requires.going.0 c.requires.going.1) (omega arith) _ (card_size f farm.stations farm.pages words c.requires.whole c.loop-station.station (omega arith)))

pub loop-station-preserved : goal.loop-station-preserved
loop-station-preserved g c = (
  omega arith,
  λ before start.
      let farm = c.args.farm.now in
      let f = g.F.Field.ops in
      going_on f farm.stations farm.pages farm.bound c.args.words.now before c.loop-station.station c.loop-station.check.book c.loop-station.tally
      (c.loop-station.invariant.1 before start) (omega arith) _ (ap (card_row f) (sym c.card_of-card.ensures)) c.ask.new.check.book c.ask.new.tally c.ask.ensures.exchange,
)

pub returns-2 : goal.returns-2
returns-2 g c = λ before start.
    let farm = c.args.farm.now in
    let f = g.F.Field.ops in
    let last : c.loop-station.station + 1 ≡ farm.stations + 1 = omega arith in
    subst (λ next. Going farm.stations farm.pages farm.bound f c.args.words.now before next c.ask.new.check.book c.ask.new.tally) last
    (going_on f farm.stations farm.pages farm.bound c.args.words.now before c.loop-station.station c.loop-station.check.book c.loop-station.tally
    (c.loop-station.invariant.1 before start) (omega arith) _ (ap (card_row f) (sym c.card_of-card.ensures)) c.ask.new.check.book c.ask.new.tally c.ask.ensures.exchange)
