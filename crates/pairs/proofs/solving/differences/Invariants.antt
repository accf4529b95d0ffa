use Rattle.std.proofs.Common.{◌≡◌, ℕ, ◌+◌, ◌<◌, slice_index}
use Rattle.scheme.specs.Differences.{gap}
use Rattle.tally.specs.Rows.{sum_in}
use Rattle.pairs.proofs.solving.differences.Given as goal

abbrev pub invariant-loop-k : goal.invariant-loop-k
invariant-loop-k g l =
    (k : ℕ) → k < l.k → slice_index l.value-items k
    ≡ gap g.F.Field.ops (sum_in l.rows.words.now l.rows.pages) l.s l.t (k + 1)
