use Rattle.std.proofs.Common.{◌≡◌, ℕ, map}
use Rattle.field.specs.Sums.{entry}
use Rattle.algebra.specs.Vectors.{Page}
use Rattle.solve.specs.Candidates.{candidates_of, codes_of, sum_at}
use Rattle.solve.proofs.Terms.{after}
use Rattle.solve.proofs.verify.has_sums.Given as goal

abbrev pub invariant-loop-value : goal.invariant-loop-value
invariant-loop-value g l =
    let f = g.F.Field.ops in
    record {
      terms : l.terms ≡ map (after f l.value-index) l.coded;
      sums : (j : ℕ) → Page l.value-index j → sum_at f (candidates_of l.coded) (codes_of l.coded) j ≡ entry l.values j;
    }
