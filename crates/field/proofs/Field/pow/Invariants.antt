use Rattle.std.proofs.Common.{◌≡◌, ◌<◌}
use Rattle.field.specs.Field.{power}
use Rattle.field.proofs.Field.pow.Given as goal

abbrev pub invariant-loop-left : goal.invariant-loop-left
invariant-loop-left g l =
    let f = g.Self.Field.ops in
    (f.times l.product (power f l.base l.left) ≡ power f l.a l.n) × (l.product < f.size)

abbrev pub decreases-loop-left : goal.decreases-loop-left
decreases-loop-left g l = l.left
