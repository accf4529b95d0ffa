-- Differences that add up, and where they do not.
use Rattle.std.specs.Prelude.{◌≡◌, ℕ, ◌<◌, ◌≤◌, ◌≢◌}
use Rattle.field.specs.Field.{Ops}
use Rattle.algebra.specs.Vectors.{Page}
use Rattle.scheme.specs.Differences.{Gaps}

-- from s by way of t to u, and at once, is the same on page n
abbrev pub Adds : Ops → Gaps → (s t u n : ℕ) → Type 0
Adds f E s t u n = f.plus (E s t n) (E t u n) ≡ E s u n

-- s is a station after t, other than i
abbrev pub After : ℕ → ℕ → ℕ → ℕ → Type 0
After M i t s = (t < s) × (s ≤ M) × (s ≢ i)

module _ (f : Ops) (N : ℕ) (E : Gaps) where
  -- so it is on every page; on some page it is not
  abbrev pub PagesAdd : (s t u : ℕ) → Type 0
  PagesAdd s t u = (n : ℕ) → Page N n → Adds f E s t u n

  abbrev pub PageBreaks : (s t u : ℕ) → Type 0
  PageBreaks s t u = (n : ℕ) × Page N n × (Adds f E s t u n → ⊥)

  module _ (M i : ℕ) where
    -- with every third station; with some third station it is not
    abbrev pub ThirdsAdd : (s t : ℕ) → Type 0
    ThirdsAdd s t = (u : ℕ) → After M i t u → PagesAdd s t u

    abbrev pub ThirdBreaks : (s t : ℕ) → Type 0
    ThirdBreaks s t = (u : ℕ) × After M i t u × PageBreaks s t u

    -- with every second and third station; with some it is not
    abbrev pub SecondsAdd : ℕ → Type 0
    SecondsAdd s = (t : ℕ) → After M i s t → ThirdsAdd s t

    abbrev pub SecondBreaks : ℕ → Type 0
    SecondBreaks s = (t : ℕ) × After M i s t × ThirdBreaks s t
