-- The sum so far, plus the product that is left, is the product.
use Rattle.std.proofs.Common.{◌≡◌, ◌-◌, ◌^◌, ◌<◌, bit_xor}
use Rattle.binary.specs.Binary.{product, times}
use Rattle.binary.proofs.product.multiply.Given as goal

abbrev pub invariant-loop-k : goal.invariant-loop-k
invariant-loop-k g l =
    (bit_xor l.sum (product g.M.Modulus.WIDTH g.M.Modulus.POLY (g.M.Modulus.WIDTH - l._k) l.x l.y) ≡ times g.M.Modulus.WIDTH g.M.Modulus.POLY l.a l.b)
    × (l.x < 2 ^ g.M.Modulus.WIDTH)
