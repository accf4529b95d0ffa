use Rattle.std.proofs.Common.{◌≡◌, ℕ, ◌<◌}
use Rattle.solve.specs.Polynomials.{at, shifted}
use Rattle.solve.proofs.polynomial.combine.Given as goal

abbrev pub invariant-loop-i : goal.invariant-loop-i
invariant-loop-i g l =
    let f = g.F.Field.ops in
    (k : ℕ) → k < l.i → at l.place-items k ≡ f.minus (shifted l.a (at l.p) k) (f.times l.c (shifted l.b (at l.w) k))
