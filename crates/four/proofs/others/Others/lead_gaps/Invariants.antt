use Rattle.std.proofs.Common.{◌≡◌, ℕ, ◌+◌, ◌<◌, slice_index}
use Rattle.scheme.specs.Four.{beside, lead_of_others}
use Rattle.four.proofs.others.Others.lead_gaps.Given as goal

abbrev pub invariant-loop-before : goal.invariant-loop-before
invariant-loop-before g l =
    let E = g.G.RowGaps.gaps l.self.gaps.now in
    (k : ℕ) → k < l.before → slice_index l.gap-items k ≡ E (beside l.self.aside) (lead_of_others l.self.farm.now.stations E l.self.aside (k + 1)) (k + 1)
