use Rattle.four.proofs.Ended.{ended_weighs}
use Rattle.four.proofs.calls.weigh_four.Goals as goal

pub returns-in-Ended : goal.returns-in-Ended
returns-in-Ended g c =
    let farm = c.args.farm.now in
    ended_weighs g.F.Field.ops farm.stations farm.pages farm.bound c.args.gaps.now c.args.tally.now c.weigh_rows.new.tally c.in-Ended.outcome c.in-Ended.ensures
