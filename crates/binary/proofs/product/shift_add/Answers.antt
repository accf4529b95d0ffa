-- One shift is the product with alpha.
use Rattle.binary.specs.Products.{shifted_plus}
use Rattle.binary.proofs.product.shift_add.Goals as goal

pub returns : goal.returns
returns g c =
    let degree = g.met.M.Modulus.degree in
    cc (shifted_plus g.M.Modulus.WIDTH g.M.Modulus.POLY degree.top c.args.a c.args.c degree.some)
