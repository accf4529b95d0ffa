use Rattle.std.proofs.Common.{◌+◌, ◌-◌}
use Rattle.solve.specs.Polynomials.{at}
use Rattle.solve.proofs.Search.{Held}
use Rattle.solve.proofs.locator.locate.Given as goal

abbrev pub invariant-loop-cleared : goal.invariant-loop-cleared
invariant-loop-cleared g l = Held g.F.Field.ops l.weight (at l.values) (at l.locator) (at l.previous) l.divisor l.degree l.cleared

abbrev pub decreases-loop-cleared : goal.decreases-loop-cleared
decreases-loop-cleared g l = l.weight + l.weight - (l.degree + l.cleared)
