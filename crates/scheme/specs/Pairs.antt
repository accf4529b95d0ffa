-- Pairs of the stations 1 .. M, and what a family of pairs may be: empty, a triangle, or through one station.
use Rattle.std.specs.Prelude.{◌≡◌, Bool, true, ◌||◌, ◌≢◌, ◌⊎◌, ◌↔◌, ℕ, ◌<◌, ◌≤◌, eqb}

abbrev pub Pair : ℕ → ℕ → ℕ → Type 0
Pair M s t = (1 ≤ s) × (s < t) × (t ≤ M)

abbrev pub Disjoint : ℕ → ℕ → ℕ → ℕ → Type 0
Disjoint s t u v = (s ≢ u) × (s ≢ v) × (t ≢ u) × (t ≢ v)

-- s is one of x, y and z
abbrev pub among : ℕ → ℕ → ℕ → ℕ → Bool
among x y z s = eqb s x || (eqb s y || eqb s z)

module _ (M : ℕ) (Ω : ℕ → ℕ → Type 0) where
  abbrev pub Empty : Type 0
  Empty = (s t : ℕ) → Pair M s t → ¬ Ω s t

  -- Ω has two disjoint pairs
  pub record TwoApart : Type 0 where
    pub s : ℕ
    pub t : ℕ
    pub u : ℕ
    pub v : ℕ
    pub one : Pair M s t × Ω s t
    pub other : Pair M u v × Ω u v
    pub disjoint : Disjoint s t u v

  -- Ω is the three pairs of x, y and z
  abbrev pub Triangle : ℕ → ℕ → ℕ → Type 0
  Triangle x y z =
      (1 ≤ x) × (x < y) × (y < z) × (z ≤ M)
      × ((s t : ℕ) → Pair M s t → Ω s t ↔ ((among x y z s ≡ true) × (among x y z t ≡ true)))

  -- i is in all pairs of Ω
  abbrev pub InAll : ℕ → Type 0
  InAll i = (s t : ℕ) → Pair M s t → Ω s t → (i ≡ s) ⊎ (i ≡ t)
