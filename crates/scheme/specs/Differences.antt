-- What the sums that are told say of the difference of two rows: T s j is sum j as row s tells it.
use Rattle.std.specs.Prelude.{◌≡◌, ◌⊎◌, ℕ, ◌<◌, ◌/◌}
use Rattle.field.specs.Field.{Ops}
use Rattle.algebra.specs.Vectors.{Page, weight, Solves}
use Rattle.scheme.specs.Farm.{Table, Station}
use Rattle.scheme.specs.Pairs.{Pair, Disjoint}

-- the differences of any two rows, by page
abbrev pub Gaps : Type 0
Gaps = ℕ → ℕ → ℕ → ℕ

-- entry k of row s minus entry k of row t
abbrev pub gap : Ops → Table → Gaps
gap f T s t k = f.minus (T s k) (T t k)

module _ (f : Ops) (N h : ℕ) (T : Table) where
  -- e solves the difference of rows s and t by h sums, with weight at most half of h
  abbrev pub Solution : ℕ → ℕ → (ℕ → ℕ) → Type 0
  Solution s t e = Solves f N (h / 2) h (gap f T s t) e

  abbrev pub Unsolved : ℕ → ℕ → Type 0
  Unsolved s t = (e : ℕ → ℕ) → ¬ Solution s t e

module _ (f : Ops) (M N h : ℕ) (T : Table) where
  -- no solution, or every pair disjoint from it has a solution of smaller weight than its own
  abbrev pub Suspect : ℕ → ℕ → Type 0
  Suspect s t =
      Unsolved f N h T s t
      ⊎ ((e : ℕ → ℕ) × Solution f N h T s t e × ((u v : ℕ) → Pair M u v → Disjoint s t u v → (d : ℕ → ℕ) × Solution f N h T u v d × (weight N d < weight N e)))

  -- D s t is the solved difference of s and t, where there is one, D t s its negative, and D s s is 0
  pub record Differences (D : Gaps) : Type 0 where
    pub pairs : (s t : ℕ) → Pair M s t → Solution f N h T s t (D s t) ⊎ Unsolved f N h T s t
    pub turned : (s t n : ℕ) → Pair M s t → Page N n → D t s n ≡ f.minus 0 (D s t n)
    pub same : (s n : ℕ) → Station M s → Page N n → D s s n ≡ 0
