use Rattle.std.proofs.Common.{◌≡◌, ◌*◌, ◌%◌, ◌<◌}
use Rattle.prime.specs.Prime.{inverse_in}
use Rattle.prime.proofs.PrimeField.inv.Given as goal

abbrev pub invariant-loop-x : goal.invariant-loop-x
invariant-loop-x l =
    (l.scale * inverse_in l.x l.x % 65537 ≡ inverse_in (l.a % 65537) (l.a % 65537)) × (l.scale < 65537) × (l.x < 65537)

abbrev pub decreases-loop-x : goal.decreases-loop-x
decreases-loop-x l = l.x
