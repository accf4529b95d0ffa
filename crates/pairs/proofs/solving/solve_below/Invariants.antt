use Rattle.std.proofs.Common.{◌≡◌, ℕ, ◌/◌, ◌<◌, ◌≤◌, length, get_or}
use Rattle.scheme.specs.Askings.{first_sums}
use Rattle.scheme.specs.Differences.{gap}
use Rattle.tally.specs.Rows.{sum_in}
use Rattle.pairs.specs.declared.difference.Difference.{Difference}
use Rattle.pairs.specs.Difference.{Answered}
use Rattle.pairs.specs.Held.{pair_place}
use Rattle.pairs.proofs.solving.solve_below.Given as goal

abbrev pub invariant-loop-s : goal.invariant-loop-s
invariant-loop-s g l =
    let f = g.F.Field.ops in
    let sums = first_sums l.farm.stations l.farm.bound in
    (length l.pairs ≡ 28)
    × ((s : ℕ) (d : Difference) → 1 ≤ s → s < l.s →
    Answered f l.farm.pages (sums / 2) sums (gap f (sum_in l.tally l.farm.pages) s l.t) (get_or l.pairs (pair_place s l.t) d))
    × ((i : ℕ) (d : Difference) → i < pair_place 1 l.t → get_or l.pairs i d ≡ get_or l.initial.pairs i d)
