use Rattle.std.proofs.Common.{◌-◌, ◌+◌, ◌≤◌}
use Rattle.four.specs.Filling.{RowsPut}
use Rattle.four.proofs.RowsWritten.{due}
use Rattle.four.proofs.filling.fill_rows.Given as goal

abbrev pub invariant-loop-station : goal.invariant-loop-station
invariant-loop-station g l =
    (l.station-counter ≤ l.farm.stations + 1)
    × RowsPut l.farm.pages (l.station-counter - 1) l.initial.tally l.tally (due g.F.Field.ops l.farm.pages (g.G.RowGaps.gaps l.gaps) l.initial.tally)
