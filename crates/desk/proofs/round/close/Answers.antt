use Rattle.std.proofs.Common.{◌≡◌, ℕ, List, Ok, Some, length, sym, subst, arith}
use Rattle.field.specs.Field.{Ops}
use Rattle.calls.specs.declared.book.Book.{Book}
use Rattle.station.specs.Kinds.{card_row}
use Rattle.calls.specs.Closing.{Weighing}
use Rattle.desk.specs.Copies.{words_of, cards}
use Rattle.desk.specs.Exchange.{Ready, Exchange}
use Rattle.desk.proofs.CardsClosed.{one_of, second_ready, settles_ready, by_weighing, by_settling}
use Rattle.desk.proofs.round.close.Goals as goal

-- the exchange was with the station that is asked again, by its own card
as_asked : (f : Ops) (N : ℕ) (words ws : List ℕ) (k s : ℕ) (b : Book) (before : List ℕ) (b' : Book) (after : List ℕ) → s ≡ k → ws ≡ words_of N words s
    → Exchange f (card_row f ws) (Some k) s b before b' after → Exchange f (cards f N words k) (Some k) k b before b' after
as_asked f N words ws k s b before b' after same card x =
    subst (λ s. Exchange f (cards f N words s) (Some k) s b before b' after) same (subst (λ ws. Exchange f (card_row f ws) (Some k) s b before b' after) card x)

pub card_of-card-requires-clause-station : goal.card_of-card-requires-clause-station
card_of-card-requires-clause-station g c =
    let farm = c.args.farm.now in
    let f = g.F.Field.ops in
    let w = subst (λ r. Weighing f c.args.check c.args.tally.now (Ok r) c.weigh.new.tally) c.in-Ok-Asks.field-0-is c.in-Ok-Asks.ensures.weighing in
    let k = c.in-Ok-Asks.again.phase.station in
    omega (
      arith,
      c.station-station.ensures.station,
      one_of f g.met.F.Field.lawful g.met.F.Field.spread c.requires.promise farm.stations farm.pages farm.bound c.args.words.now c.requires.whole c.args.check.book c.args.tally.now
          c.requires.going.0 c.requires.going.1 k c.in-Ok-Asks.again.book c.weigh.new.tally w,
    )

pub ask-requires : goal.ask-requires
ask-requires g c =
    let farm = c.args.farm.now in
    let f = g.F.Field.ops in
    let w = subst (λ r. Weighing f c.args.check c.args.tally.now (Ok r) c.weigh.new.tally) c.in-Ok-Asks.field-0-is c.in-Ok-Asks.ensures.weighing in
    let k = c.in-Ok-Asks.again.phase.station in
    subst (λ s. Ready (card_row f c.card_of-card.result.words.now) (Some k) s c.in-Ok-Asks.again.book (length c.weigh.new.tally)) (sym c.station-station.ensures.station)
    (second_ready f g.met.F.Field.lawful g.met.F.Field.spread c.requires.promise farm.stations farm.pages farm.bound c.args.words.now c.requires.whole c.args.check.book c.args.tally.now
    c.requires.going.0 c.requires.going.1 k c.in-Ok-Asks.again.book c.weigh.new.tally w _)

pub unreachable-requires : goal.unreachable-requires
unreachable-requires g c =
    let farm = c.args.farm.now in
    let f = g.F.Field.ops in
    let w = subst (λ r. Weighing f c.args.check c.args.tally.now (Ok r) c.weigh.new.tally) c.in-Ok-Asks.field-0-is c.in-Ok-Asks.ensures.weighing in
    let k = c.in-Ok-Asks.again.phase.station in
    let x = as_asked f farm.pages c.args.words.now c.card_of-card.result.words.now k c.station-station.result c.in-Ok-Asks.again.book c.weigh.new.tally c.ask.new.check.book c.ask.new.tally
    c.station-station.ensures.station c.card_of-card.ensures c.ask.ensures.exchange in
    settles_ready f g.met.F.Field.lawful g.met.F.Field.spread c.requires.promise farm.stations farm.pages farm.bound c.args.words.now c.requires.whole c.args.check.book c.args.tally.now
    c.requires.going.0 c.requires.going.1 k c.in-Ok-Asks.again.book c.weigh.new.tally w c.ask.new.check.book c.ask.new.tally x c.in-Err-settle.field-0.refusal c.in-Err-settle.ensures.settling.0.0

pub returns-in-Ok-Closes : goal.returns-in-Ok-Closes
returns-in-Ok-Closes g c = λ before going.
    let farm = c.args.farm.now in
    let f = g.F.Field.ops in
    let w = subst (λ r. Weighing f c.args.check c.args.tally.now (Ok r) c.weigh.new.tally) c.in-Ok-Closes.field-0-is c.in-Ok-Closes.ensures.weighing in
    by_weighing f g.met.F.Field.lawful g.met.F.Field.spread c.requires.promise farm.stations farm.pages farm.bound c.args.words.now c.requires.whole c.args.check.book c.args.tally.now
    before going c.in-Ok-Closes.closed.phase.verdict c.in-Ok-Closes.closed.book c.weigh.new.tally w

pub returns-in-Ok : goal.returns-in-Ok
returns-in-Ok g c = λ before going.
    let farm = c.args.farm.now in
    let f = g.F.Field.ops in
    let w = subst (λ r. Weighing f c.args.check c.args.tally.now (Ok r) c.weigh.new.tally) c.in-Ok-Asks.field-0-is c.in-Ok-Asks.ensures.weighing in
    let k = c.in-Ok-Asks.again.phase.station in
    let x = as_asked f farm.pages c.args.words.now c.card_of-card.result.words.now k c.station-station.result c.in-Ok-Asks.again.book c.weigh.new.tally c.ask.new.check.book c.ask.new.tally
    c.station-station.ensures.station c.card_of-card.ensures c.ask.ensures.exchange in
    by_settling f g.met.F.Field.lawful g.met.F.Field.spread c.requires.promise farm.stations farm.pages farm.bound c.args.words.now c.requires.whole c.args.check.book c.args.tally.now
    before going k c.in-Ok-Asks.again.book c.weigh.new.tally w c.ask.new.check.book c.ask.new.tally x c.in-Ok.closed.phase.verdict c.in-Ok.closed.book c.settle.new.tally c.in-Ok.ensures.settling
