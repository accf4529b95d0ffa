use Rattle.std.proofs.Common.{ap}
use Rattle.station.specs.Kinds.{card_row}
use Rattle.desk.proofs.Rounds.{going_starts}
use Rattle.desk.proofs.round.check_cards.Goals as goal

pub ask_all-requires-clause-going : goal.ask_all-requires-clause-going
ask_all-requires-clause-going g c =
    let farm = c.args.farm.now in
    let f = g.F.Field.ops in (
      c.args.tally.now,
      going_starts f farm.stations farm.pages farm.bound c.args.words.now c.args.tally.now _ (ap (card_row f) c.card_of-own.ensures)
          c.in_ok-check.check.book c.open.new.tally c.in_ok-check.ensures.opened,
    )

pub close-requires-clause-going : goal.close-requires-clause-going
close-requires-clause-going g c =
    let farm = c.args.farm.now in
    let f = g.F.Field.ops in (
      c.args.tally.now,
      c.ask_all.ensures c.args.tally.now (going_starts f farm.stations farm.pages farm.bound c.args.words.now c.args.tally.now _ (ap (card_row f) c.card_of-own.ensures)
          c.in_ok-check.check.book c.open.new.tally c.in_ok-check.ensures.opened),
    )

pub returns : goal.returns
returns g c =
    let farm = c.args.farm.now in
    let f = g.F.Field.ops in
    let opens = c.in_ok-check.ensures.opened in (
      (c.in_ok-accept_pages.ensures.0, (c.in_ok-accept_length.ensures.0, (opens.accepted.1.1.1.1.1.0, tt))),
      c.close.ensures c.args.tally.now (c.ask_all.ensures c.args.tally.now (going_starts f farm.stations farm.pages farm.bound c.args.words.now c.args.tally.now _
          (ap (card_row f) c.card_of-own.ensures) c.in_ok-check.check.book c.open.new.tally opens)),
    )
