use Rattle.std.proofs.Common.{◌+◌, ◌≤◌}
use Rattle.field.specs.Sums.{entry, power_sum}
use Rattle.tally.specs.Rows.{sum_place}
use Rattle.calls.specs.Entering.{Placed}
use Rattle.calls.proofs.entering.fill_sums.Given as goal

abbrev pub invariant-loop-j : goal.invariant-loop-j
invariant-loop-j g l =
    (l.j ≤ l.sums + 1)
    × Placed (sum_place l.pages 1) (power_sum g.F.Field.ops l.pages (entry (g.S.Station.row l.own))) 1 l.j l.initial.tally l.tally
