-- The differences that are relied on, and the station in doubt, by the shape of the suspect pairs.
use Rattle.std.specs.Prelude.{◌≡◌, ℕ, Option, Some, None}
use Rattle.field.specs.Field.{Ops}
use Rattle.scheme.specs.Differences.{Gaps}
use Rattle.scheme.specs.Four.{by_way}
use Rattle.pairs.specs.declared.doubt.Doubt.{Doubt}
use Rattle.pairs.specs.declared.doubt.Doubt.TheVariants.{TwoApart, Nobody, Triangle, Station}
use Rattle.pairs.specs.declared.pair_gaps.PairGaps.{PairGaps}
use Rattle.pairs.specs.Doubts.{Shape}
use Rattle.pairs.specs.Suspects.{SuspectIn}
use Rattle.four.specs.declared.relied.Relied.{Relied}

-- between the stations of a triangle by way of the one outside, else as solved
abbrev pub relied : Ops → Doubt → Gaps → Gaps
relied f TwoApart D = D
relied f Nobody D = D
relied f (Triangle x y z outside) D = by_way f x y z outside D
relied f (Station i) D = D

-- the station in doubt, if there is one
abbrev pub doubted : Doubt → Option ℕ
doubted TwoApart = None
doubted Nobody = None
doubted (Triangle x y z outside) = None
doubted (Station i) = Some i

-- the shape of the suspects by what is held, where no two of them are disjoint
abbrev pub Relies : PairGaps → Option Relied → Type 0
Relies g (Some r) = (r.gaps.now ≡ g) × Shape g.stations (SuspectIn g.stations g) r.doubt × (r.doubt ≡ TwoApart → ⊥)
Relies g None = Shape g.stations (SuspectIn g.stations g) TwoApart
