-- Which pairs of M stations are suspect, by what is held of them.
use Rattle.std.specs.Prelude.{◌≡◌, ℕ, ◌<◌, true, false, ◌⊎◌}
use Rattle.scheme.specs.Pairs.{Pair, Disjoint}
use Rattle.pairs.specs.declared.pair_gaps.PairGaps.{PairGaps}
use Rattle.pairs.specs.Held.{unsolved_in, weight_in}

-- the pair u < v has a solution of smaller weight than w
abbrev pub LighterIn : PairGaps → ℕ → ℕ → ℕ → Type 0
LighterIn g w u v = (unsolved_in g u v ≡ false) × (weight_in g u v < w)

module _ (M : ℕ) (g : PairGaps) where
  -- every pair disjoint from s and t is lighter than w
  abbrev pub AllLighter : ℕ → ℕ → ℕ → Type 0
  AllLighter w s t = (u v : ℕ) → Pair M u v → Disjoint s t u v → LighterIn g w u v

  -- no solution, or every pair disjoint from it has a solution of smaller weight
  abbrev pub SuspectIn : ℕ → ℕ → Type 0
  SuspectIn s t = (unsolved_in g s t ≡ true) ⊎ ((unsolved_in g s t ≡ false) × AllLighter (weight_in g s t) s t)
