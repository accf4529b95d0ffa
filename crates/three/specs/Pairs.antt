-- The pair of three stations that is taken, by what is held of the pairs.
use Rattle.std.specs.Prelude.{◌≡◌, ℕ, ◌+◌, ◌<◌, ◌≤◌, cond, Some, None, Option, nat_lt}
use Rattle.scheme.specs.Pairs.{Pair}
use Rattle.pairs.specs.declared.pair_gaps.PairGaps.{PairGaps}
use Rattle.pairs.specs.Held.{answered_weight}
use Rattle.three.specs.declared.taking.TakenPair.{TakenPair}

-- the one of less weight, and of equal ones the first
abbrev pub lighter : Option TakenPair → Option TakenPair → Option TakenPair
lighter None y = y
lighter (Some x) None = Some x
lighter (Some x) (Some y) = cond (nat_lt y.weight x.weight) (Some y) (Some x)

module _ (g : PairGaps) where
  -- the pair s < t with its weight, or that it has no solution
  abbrev pub WeighedOf : (s t : ℕ) → Option TakenPair → Type 0
  WeighedOf s t (Some x) = (x.first ≡ s) × (x.second ≡ t) × (answered_weight g s t ≡ Some x.weight)
  WeighedOf s t None = answered_weight g s t ≡ None

  -- x is the solved pair of least weight; of equal ones the first of {1,2}, {1,3}, {2,3}, which is that of least total
  pub record LightestPair (x : TakenPair) : Type 0 where
    pub pair : Pair 3 x.first x.second
    pub solved : answered_weight g x.first x.second ≡ Some x.weight
    pub least : (u v w : ℕ) → Pair 3 u v → answered_weight g u v ≡ Some w → x.weight ≤ w
    pub foremost : (u v w : ℕ) → Pair 3 u v → answered_weight g u v ≡ Some w → u + v < x.first + x.second → x.weight < w

  -- that pair, or that none is solved
  abbrev pub Lightest : Option TakenPair → Type 0
  Lightest (Some x) = LightestPair x
  Lightest None = (u v w : ℕ) → Pair 3 u v → answered_weight g u v ≡ Some w → ⊥
