use Rattle.std.proofs.Common.{◌≡◌, ◌++◌, map, take, drop}
use Rattle.field.specs.Sums.{entry, total}
use Rattle.solve.specs.Candidates.{codes_of, raised}
use Rattle.solve.proofs.verify.next_sum.Given as goal

abbrev pub invariant-loop-term : goal.invariant-loop-term
invariant-loop-term g l =
    let f = g.F.Field.ops in
    record {
      terms : l.terms ≡ map (raised f) (take l.term-index l.initial.terms) ++ drop l.term-index l.initial.terms;
      sum : l.sum ≡ total f l.term-index (entry (codes_of (map (raised f) l.initial.terms)));
    }
