-- The square so far, and the product of the squares before it.
use Rattle.std.proofs.Common.{◌≡◌, ◌-◌}
use Rattle.binary.specs.Binary.{times, squared, chain}
use Rattle.binary.proofs.product.invert.Given as goal

abbrev pub invariant-loop-k : goal.invariant-loop-k
invariant-loop-k g l =
    (l.square ≡ squared g.M.Modulus.WIDTH g.M.Modulus.POLY (l._k - 1) (times g.M.Modulus.WIDTH g.M.Modulus.POLY l.a l.a))
    × (l.result ≡ chain g.M.Modulus.WIDTH g.M.Modulus.POLY (l._k - 1) (times g.M.Modulus.WIDTH g.M.Modulus.POLY l.a l.a))
