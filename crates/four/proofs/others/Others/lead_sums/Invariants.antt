use Rattle.std.proofs.Common.{◌≡◌, ℕ, ◌+◌, ◌<◌, slice_index}
use Rattle.scheme.specs.Four.{sum_from_leads}
use Rattle.tally.specs.Rows.{sum_in}
use Rattle.four.proofs.others.Others.lead_sums.Given as goal

abbrev pub invariant-loop-k : goal.invariant-loop-k
invariant-loop-k g l =
    let farm = l.self.farm.now in
    (k : ℕ) → k < l.k → slice_index l.value-items k
    ≡ sum_from_leads g.F.Field.ops farm.stations farm.pages farm.bound (sum_in l.tally farm.pages) (g.G.RowGaps.gaps l.self.gaps.now) l.self.aside (k + 1)
