use Rattle.std.proofs.Common.{◌≡◌, ◌+◌, ◌-◌, ◌≤◌}
use Rattle.scheme.specs.Farm.{top}
use Rattle.scheme.specs.Four.{group_of_others}
use Rattle.four.proofs.others.Others.lead.Given as goal

abbrev pub invariant-loop-station : goal.invariant-loop-station
invariant-loop-station g l =
    let M = l.self.farm.now.stations in
    let sizes = group_of_others M (g.G.RowGaps.gaps l.self.gaps.now) l.self.aside l.page in
    (l.station ≤ M + 1) × (l.lead ≡ top sizes (l.station - 1)) × (l.largest ≡ sizes l.lead)
