-- What shape a family of pairs of M stations has, and the station outside a triangle.
use Rattle.std.specs.Prelude.{◌≡◌, ℕ, ◌≤◌, false}
use Rattle.scheme.specs.Farm.{Lowest}
use Rattle.scheme.specs.Pairs as shape
use Rattle.scheme.specs.Pairs.{among, Empty, InAll}
use Rattle.pairs.specs.declared.doubt.Doubt.{Doubt}
use Rattle.pairs.specs.declared.doubt.Doubt.TheVariants.{TwoApart, Nobody, Triangle, Station}

-- the lowest station that is none of x, y and z; with four stations there is one
abbrev pub Outside : ℕ → (x y z : ℕ) → ℕ → Type 0
Outside M x y z = Lowest M (λ s. among x y z s ≡ false)

abbrev pub Shape : (M : ℕ) → (ℕ → ℕ → Type 0) → Doubt → Type 0
Shape M Ω TwoApart = shape.TwoApart M Ω
Shape M Ω Nobody = Empty M Ω
Shape M Ω (Triangle x y z outside) = shape.Triangle M Ω x y z × (4 ≤ M → Outside M x y z outside)
Shape M Ω (Station i) = (¬ Empty M Ω) × Lowest M (InAll M Ω) i
