use Rattle.std.proofs.Common.{◌≤◌, arith}
use Rattle.verdict.proofs.FromThree as three
use Rattle.verdict.proofs.FromFour as four
use Rattle.verdict.proofs.farms.weigh_farm.Goals as goal

pub returns-then-farm-eq3 : goal.returns-then-farm-eq3
returns-then-farm-eq3 g c =
    let farm = c.args.farm.now in
    three.weighed g.F.Field.ops farm.stations farm.pages farm.bound c.if-farm-eq3.true c.args.tally.now c.weigh_three.new.tally c.weigh_three.result c.weigh_three.ensures

pub returns-else-farm-eq3 : goal.returns-else-farm-eq3
returns-else-farm-eq3 g c =
    let farm = c.args.farm.now in
    let least : 4 ≤ farm.stations = omega (arith, farm.stations_in, c.if-farm-eq3.false) in
    four.weighed g.F.Field.ops farm.stations farm.pages farm.bound c.args.tally.now c.weigh_four.new.tally least c.weigh_four.result c.weigh_four.ensures
