use Rattle.std.proofs.Common.{◌≡◌, length}
use Rattle.solve.specs.Polynomials.{at}
use Rattle.solve.specs.Candidates.{pages_of, candidates_of, codes_of}
use Rattle.solve.specs.Listing.{Nonzeros}
use Rattle.solve.proofs.listing.list_nonzeros.Given as goal
use Rattle.solve.specs.declared.limits.TheConstants.{LIST_SIZE}

abbrev pub invariant-loop-term : goal.invariant-loop-term
invariant-loop-term l = record {
  long : length l.list ≡ LIST_SIZE;
  listed : Nonzeros l.term-index (at (pages_of (candidates_of l.coded))) (at (codes_of l.coded)) l.listed l.list;
}
