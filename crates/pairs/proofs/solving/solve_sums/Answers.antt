use Rattle.std.proofs.Common.{◌≤◌, length, arith}
use Rattle.pairs.proofs.Answering.{answered}
use Rattle.pairs.proofs.solving.solve_sums.Goals as goal

pub returns : goal.returns
returns g c =
    let room : c.args.sums ≤ length c.args.values.now = omega (arith, c.requires.enough) in
    answered g.F.Field.ops c.args.pages c.args.weight c.args.sums c.args.values.now room _ c.solve.new.list c.in-Ok.found c.in-Ok.ensures.1
