use Rattle.std.proofs.Common.{ℕ, ◌<◌, ◌≤◌}
use Rattle.field.specs.Sums.{entry}
use Rattle.station.proofs.theorems.holds_codes.Given as goal

abbrev pub invariant-loop-page : goal.invariant-loop-page
invariant-loop-page g l = (k : ℕ) → 1 ≤ k → k < l.page → entry (g.S.Station.row l.station) k < g.F.Field.ops.size
