-- The first pair of M stations that passes, in the order of its lower station and then of the higher.
use Rattle.std.specs.Prelude.{◌≡◌, ℕ, ◌<◌, ◌≤◌, ◌⊎◌, Some, None, Option}
use Rattle.scheme.specs.Pairs.{Pair}

-- the pair s < t comes before the pair u < v
abbrev pub Before : ℕ → ℕ → ℕ → ℕ → Type 0
Before s t u v = (s < u) ⊎ ((s ≡ u) × (t < v))

-- a pair that passes, and all pairs before it fail; or all pairs fail
abbrev pub FirstPair : ℕ → (Passes Fails : ℕ → ℕ → Type 0) → Option (ℕ × ℕ) → Type 0
FirstPair M Passes Fails (Some p) = Pair M p.0 p.1 × Passes p.0 p.1 × ((s t : ℕ) → Pair M s t → Before s t p.0 p.1 → Fails s t)
FirstPair M Passes Fails None = (s t : ℕ) → Pair M s t → Fails s t

-- the same with the lower station given
abbrev pub FirstAfter : (M s : ℕ) → (Passes Fails : ℕ → Type 0) → Option ℕ → Type 0
FirstAfter M s Passes Fails (Some t) = (s < t) × (t ≤ M) × Passes t × ((u : ℕ) → s < u → u < t → Fails u)
FirstAfter M s Passes Fails None = (t : ℕ) → s < t → t ≤ M → Fails t
