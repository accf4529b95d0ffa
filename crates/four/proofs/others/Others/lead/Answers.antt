use Rattle.std.proofs.Common.{◌≡◌, ℕ, ◌+◌, ◌-◌, sym, ap, ◌∙◌, arith}
use Rattle.scheme.specs.Farm.{top}
use Rattle.scheme.specs.Four.{group_of_others}
use Rattle.four.proofs.Tops.{top_later, top_stays}
use Rattle.four.proofs.others.Others.lead.Goals as goal
use Rattle.four.proofs.others.Others.lead.Goals.{then-largest-size, else-largest-size}

pub loop-station-preserved : goal.loop-station-preserved
loop-station-preserved g c =
    let sizes : ℕ → ℕ = group_of_others c.args.self.now.farm.now.stations (g.G.RowGaps.gaps c.args.self.now.gaps.now) c.args.self.now.aside c.args.page in
    let s = c.loop-station.station in
    let lead = c.loop-station.lead in
    let is = c.loop-station.invariant.1 in
    let largest = c.loop-station.invariant.2 in
    let size = c.group_size-size.ensures in
    let next = ap (top sizes) (let q : s ≡ s + 1 - 1 = omega arith in q) in
    elim c.if-largest-size.branch [
      | then-largest-size w ↦ (
        omega arith,
        w.lead-is ∙ top_later sizes s lead (omega arith) is (omega (arith, w.if-largest-size.true, largest, size)) ∙ next,
        w.largest-is ∙ size ∙ ap sizes (sym w.lead-is),
      )
      | else-largest-size w ↦ (
        omega arith,
        w.lead-is ∙ top_stays sizes s lead (omega arith) is (omega (arith, w.if-largest-size.false, largest, size)) ∙ next,
        w.largest-is ∙ largest ∙ ap sizes (sym w.lead-is),
      )
    ]

pub returns : goal.returns
returns g c =
    let sizes : ℕ → ℕ = group_of_others c.args.self.now.farm.now.stations (g.G.RowGaps.gaps c.args.self.now.gaps.now) c.args.self.now.aside c.args.page in
    c.loop-station.invariant.1 ∙ ap (top sizes) (let q : c.loop-station.station - 1 ≡ c.args.self.now.farm.now.stations = omega arith in q)

pub returns-after-largest-size : goal.returns-after-largest-size
returns-after-largest-size g c =
    let sizes : ℕ → ℕ = group_of_others c.args.self.now.farm.now.stations (g.G.RowGaps.gaps c.args.self.now.gaps.now) c.args.self.now.aside c.args.page in
    let s = c.loop-station.station in
    let lead = c.loop-station.lead in
    let is = c.loop-station.invariant.1 in
    let all = ap (top sizes) (let q : s ≡ c.args.self.now.farm.now.stations = omega arith in q) in
    elim c.if-largest-size.branch [
      | then-largest-size w ↦ w.lead-is ∙ top_later sizes s lead (omega arith) is (omega (arith, w.if-largest-size.true, c.loop-station.invariant.2, c.group_size-size.ensures)) ∙ all
      | else-largest-size w ↦ w.lead-is ∙ top_stays sizes s lead (omega arith) is (omega (arith, w.if-largest-size.false, c.loop-station.invariant.2, c.group_size-size.ensures)) ∙ all
    ]
