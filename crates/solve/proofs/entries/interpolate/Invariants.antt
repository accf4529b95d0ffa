use Rattle.std.proofs.Common.{◌≡◌, map, take, length}
use Rattle.solve.specs.Polynomials.{at, interpolated}
use Rattle.solve.proofs.Coding.{coded_by}
use Rattle.solve.proofs.entries.interpolate.Given as goal

abbrev pub invariant-loop-candidate : goal.invariant-loop-candidate
invariant-loop-candidate g l =
    l.coded.items ≡ map (coded_by (λ x. interpolated g.F.Field.ops (length l.values) (at l.product) x (at l.values))) (take l.candidate-index l.candidates)
