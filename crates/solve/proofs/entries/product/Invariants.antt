use Rattle.solve.specs.Polynomials.{at}
use Rattle.solve.specs.Candidates.{points_of}
use Rattle.solve.proofs.Products.{Partial}
use Rattle.solve.proofs.entries.product.Given as goal

abbrev pub invariant-loop-candidate : goal.invariant-loop-candidate
invariant-loop-candidate g l = Partial g.F.Field.ops l.candidate-index (at (points_of l.candidates)) (at l.product)
