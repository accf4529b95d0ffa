use Rattle.three.proofs.Lightest.{lightest}
use Rattle.three.proofs.taking.take_pair.Goals as goal

pub returns : goal.returns
returns c =
    lightest c.args.gaps.now c.weighed-of_two.result c.weighed-of_three.result c.weighed-others.result c.lighter.result c.lighter-2.result
    c.weighed-of_two.ensures c.weighed-of_three.ensures c.weighed-others.ensures c.lighter.ensures c.lighter-2.ensures
