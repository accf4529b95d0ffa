use Rattle.std.proofs.Common.{◌≡◌, ℕ, ◌/◌, ◌<◌, get_or}
use Rattle.scheme.specs.Askings.{first_sums}
use Rattle.scheme.specs.Differences.{gap}
use Rattle.scheme.specs.Pairs.{Pair}
use Rattle.tally.specs.Rows.{sum_in}
use Rattle.pairs.specs.declared.difference.Difference.{Difference}
use Rattle.pairs.specs.Difference.{Answered}
use Rattle.pairs.specs.Held.{pair_place}
use Rattle.pairs.proofs.solving.solve_pairs.Given as goal

abbrev pub invariant-loop-t : goal.invariant-loop-t
invariant-loop-t g l =
    let f = g.F.Field.ops in
    let sums = first_sums l.farm.stations l.farm.bound in
    (l.gaps.stations ≡ l.farm.stations)
    × ((s t : ℕ) (d : Difference) → Pair l.farm.stations s t → t < l.t →
    Answered f l.farm.pages (sums / 2) sums (gap f (sum_in l.tally l.farm.pages) s t) (get_or l.gaps.pairs (pair_place s t) d))
