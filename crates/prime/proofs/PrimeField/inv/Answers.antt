use Rattle.std.proofs.Common.{◌∙◌, mod-lt, arith, lit<}
use Rattle.prime.specs.Inverse.{inverse_turn}
use Rattle.prime.proofs.PrimeField.inv.Goals as goal

pub loop-x-preserved : goal.loop-x-preserved
loop-x-preserved c =
    (inverse_turn c.loop-x.scale c.loop-x.x (omega arith) ∙ c.loop-x.invariant.0, mod-lt _ (lit< tt), omega (arith, c.loop-x.invariant.2, mod-lt 65537 {m = c.loop-x.x} (omega arith)))
