use Rattle.std.proofs.Common.{◌≤◌, arith}
use Rattle.verdict.proofs.FromThree as three
use Rattle.verdict.proofs.FromFour as four
use Rattle.verdict.proofs.farms.settle_farm.Goals as goal

pub returns-then-farm-eq3 : goal.returns-then-farm-eq3
returns-then-farm-eq3 g c =
    let farm = c.args.farm.now in
    three.settled g.F.Field.ops farm.stations farm.pages farm.bound c.if-farm-eq3.true c.args.tally.now c.settle_three.new.tally c.settle_three.result c.settle_three.ensures

pub returns-else-farm-eq3 : goal.returns-else-farm-eq3
returns-else-farm-eq3 g c =
    let farm = c.args.farm.now in
    let least : 4 ≤ farm.stations = omega (arith, farm.stations_in, c.if-farm-eq3.false) in
    four.settled g.F.Field.ops farm.stations farm.pages farm.bound c.args.tally.now c.settle_four.new.tally least c.settle_four.result c.settle_four.ensures
