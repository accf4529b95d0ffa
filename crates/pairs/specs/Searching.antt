-- Seeking a pair of M stations that is in Ω.
use Rattle.std.specs.Prelude.{ℕ, Option}
use Rattle.scheme.specs.Pairs.{Disjoint}
use Rattle.pairs.specs.Seeking.{FirstPair}

module _ (M : ℕ) (Ω : ℕ → ℕ → Type 0) where
  -- u < v is in Ω, without x and y
  abbrev pub Apart : ℕ → ℕ → ℕ → ℕ → Type 0
  Apart x y u v = Disjoint x y u v × Ω u v

  -- the first pair of Ω without x and y, or that there is none
  abbrev pub FirstApart : ℕ → ℕ → Option (ℕ × ℕ) → Type 0
  FirstApart x y = FirstPair M (Apart x y) (λ u v. ¬ Apart x y u v)
