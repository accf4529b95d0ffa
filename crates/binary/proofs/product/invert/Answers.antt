-- One turn of the loop takes one square into the product.
use Rattle.std.proofs.Common.{◌≡◌, refl, suc, ◌+◌, ◌-◌, arith}
use Rattle.binary.specs.Binary.{squared, chain}
use Rattle.binary.proofs.product.invert.Goals as goal

pub loop-k-init : goal.loop-k-init
unfolding squared chain
loop-k-init g c = (c.multiply-square.ensures, refl)

pub loop-k-preserved : goal.loop-k-preserved
unfolding squared chain
loop-k-preserved g c =
    let next : c.loop-k._k + 1 - 1 ≡ suc (c.loop-k._k - 1) = omega arith in ((cc), (cc))
