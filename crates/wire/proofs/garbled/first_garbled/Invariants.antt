use Rattle.std.proofs.Common.{ℕ, ◌<◌, ◌+◌, get_or}
use Rattle.wire.specs.Reading.{WellFormed}
use Rattle.wire.proofs.garbled.first_garbled.Given as goal

abbrev pub invariant-loop-before : goal.invariant-loop-before
invariant-loop-before l = (k : ℕ) → k < l.before → WellFormed l.limit (k + 1) (get_or l.words k 0)
