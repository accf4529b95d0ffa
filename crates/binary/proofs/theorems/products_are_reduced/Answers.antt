use Rattle.binary.proofs.CarryLess.{products}
use Rattle.binary.proofs.theorems.products_are_reduced.Goals as goal

pub returns : goal.returns
returns g c = products g.M.Modulus.WIDTH g.M.Modulus.POLY g.met.M.Modulus.degree.top
