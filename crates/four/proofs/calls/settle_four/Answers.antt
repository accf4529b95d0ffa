use Rattle.pairs.specs.Held.{gaps_in}
use Rattle.four.proofs.Ended.{ended_settles, doubted_settles}
use Rattle.four.proofs.calls.settle_four.Goals as goal

pub returns-in-Ended : goal.returns-in-Ended
returns-in-Ended g c =
    let farm = c.args.farm.now in
    ended_settles g.F.Field.ops farm.stations farm.pages farm.bound c.args.gaps.now c.args.tally.now c.weigh_rows.new.tally c.in-Ended.outcome c.in-Ended.ensures

pub returns-in-Doubted : goal.returns-in-Doubted
returns-in-Doubted g c =
    let f = g.F.Field.ops in
    let farm = c.args.farm.now in
    let held = c.args.gaps.now in
    doubted_settles f farm.stations farm.pages farm.bound held c.args.tally.now c.settle_aside.new.tally (gaps_in f held) c.in-Doubted.aside c.in-Doubted.ensures.0
    c.weigh_rows.new.tally c.in-Doubted.ensures.1 c.settle_aside.result c.settle_aside.ensures
