use Rattle.std.proofs.Common.{ℕ, false}
use Rattle.std.proofs.Common.{◌<◌, ◌≤◌, ◌+◌}
use Rattle.scheme.specs.Pairs.{Pair}
use Rattle.pairs.proofs.seeking.first_pair.Given as goal

abbrev pub invariant-loop-s : goal.invariant-loop-s
invariant-loop-s g l =
    goal.P-IsAlwaysCallable g l.passes
    × (l.s ≤ l.stations + 1) × ((a t : ℕ) → Pair l.stations a t → a < l.s → goal.P-post g l.passes a t false)
