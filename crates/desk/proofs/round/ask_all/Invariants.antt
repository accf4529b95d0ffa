use Rattle.std.proofs.Common.{◌+◌, ◌≤◌, List, ℕ}
use Rattle.desk.specs.Going.{Going}
use Rattle.desk.proofs.round.ask_all.Given as goal

abbrev pub invariant-loop-station : goal.invariant-loop-station
invariant-loop-station g l =
    (l.station ≤ l.farm.stations + 1)
    × ((before : List ℕ) → Going l.farm.stations l.farm.pages l.farm.bound g.F.Field.ops l.words before 2 l.fn.check.book l.fn.tally
    → Going l.farm.stations l.farm.pages l.farm.bound g.F.Field.ops l.words before l.station l.check.book l.tally)
