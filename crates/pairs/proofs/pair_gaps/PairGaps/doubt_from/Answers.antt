use Rattle.pairs.proofs.Suspecting.{decide_suspect}
use Rattle.pairs.proofs.Shapes.{through_lower, through_higher, triangle_shape}
use Rattle.pairs.proofs.pair_gaps.PairGaps.doubt_from.Goals as goal

pub returns-in_default : goal.returns-in_default
returns-in_default c =
    let first = c.requires.first in
    through_lower c.args.s c.args.t first.0 first.1.1 c.in_default.ensures

pub returns-in_default-first_apart : goal.returns-in_default-first_apart
returns-in_default-first_apart c =
    let first = c.requires.first in
    let other = c.in-Some.ensures in
    through_higher c.args.s c.args.t c.in-Some.field-0-0 c.in-Some.z first.0 first.1.1 other.0 other.1 c.in_default-first_apart.ensures

pub returns : goal.returns
returns c =
    let gaps = c.args.self.now in
    let first = c.in-Some.ensures in
    let other = c.in-Some-first_apart.field-0 in
    let apart = c.in-Some-first_apart.ensures in
    triangle_shape gaps.few (λ s t _. decide_suspect gaps.stations gaps s t) c.requires.meeting c.args.s c.args.t c.in-Some.field-0-0 c.in-Some.z
    other.0 other.1 c.lowest_outside.result c.requires.first first.0 first.1 apart.0 apart.1 c.lowest_outside.ensures
