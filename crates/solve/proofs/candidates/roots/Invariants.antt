use Rattle.std.proofs.Common.{◌≡◌, length}
use Rattle.field.specs.Field.{power}
use Rattle.solve.specs.Polynomials.{at, value}
use Rattle.solve.specs.Candidates.{Roots}
use Rattle.solve.proofs.candidates.roots.Given as goal

abbrev pub invariant-loop-before : goal.invariant-loop-before
invariant-loop-before g l =
    let f = g.F.Field.ops in
    record {
      point_of : l.point ≡ power f f.alpha l.before;
      found : Roots f (value f (length l.locator) (at l.locator) 0) l.before l.found.items;
    }
