-- Vectors of codes, one code a page, pages counted from 1; and three theorems on what their first sums tell.
use Rattle.std.specs.Prelude.{◌≡◌, ◌⊎◌, ℕ, zero, suc, ◌+◌, ◌<◌, ◌≤◌}
use Rattle.field.specs.Field.{Ops, Laws, Spread}
use Rattle.field.specs.Sums.{power_sum}

-- n is one of the pages 1 .. N
abbrev pub Page : ℕ → ℕ → Type 0
Page N n = (1 ≤ n) × (n ≤ N)

-- the entries of e on the pages 1 .. N are codes
abbrev pub Codes : Ops → ℕ → (ℕ → ℕ) → Type 0
Codes f N e = (n : ℕ) → Page N n → e n < f.size

-- k, and one more if a is not 0
abbrev pub counted : ℕ → ℕ → ℕ
counted zero k = k
counted (suc a) k = suc k

-- how many of e 1 .. e N are not 0
abbrev pub weight : ℕ → (ℕ → ℕ) → ℕ
weight zero e = 0
weight (suc N) e = counted (e (suc N)) (weight N e)

-- e is a vector of codes, at most t of them not 0, and its sums 1 .. J are those of s
pub record Solves (f : Ops) (N t J : ℕ) (s e : ℕ → ℕ) : Type 0 where
  pub codes : Codes f N e
  pub light : weight N e ≤ t
  pub sums : (j : ℕ) → Page J j → power_sum f N e j ≡ s j

-- d and e have the same sums 1 .. J
abbrev pub SameSums : Ops → (N J : ℕ) → (d e : ℕ → ℕ) → Type 0
SameSums f N J d e = (j : ℕ) → 1 ≤ j → j ≤ J → power_sum f N d j ≡ power_sum f N e j

-- A vector of weight at most J whose sums 1 .. J are 0 is 0.
abbrev pub Vanishing : Type 0
Vanishing =
    (f : Ops) → Laws f → Spread f → (N : ℕ) → N ≤ f.places → (e : ℕ → ℕ) → Codes f N e →
    (J : ℕ) → weight N e ≤ J → ((j : ℕ) → 1 ≤ j → j ≤ J → power_sum f N e j ≡ 0) →
    (n : ℕ) → Page N n → e n ≡ 0

-- Two vectors with the same sums 1 .. J are equal, if their weights add up to at most J or J is at least N.
abbrev pub Unique : Type 0
Unique =
    (f : Ops) → Laws f → Spread f → (N : ℕ) → N ≤ f.places → (d e : ℕ → ℕ) → Codes f N d → Codes f N e →
    (J : ℕ) → SameSums f N J d e → (weight N d + weight N e ≤ J) ⊎ (N ≤ J) →
    (n : ℕ) → Page N n → d n ≡ e n

-- Two vectors with the same sums 1 .. J that differ have weights that add up to more than J, and J is less than N.
abbrev pub Far : Type 0
Far =
    (f : Ops) → Laws f → Spread f → (N : ℕ) → N ≤ f.places → (d e : ℕ → ℕ) → Codes f N d → Codes f N e →
    (J : ℕ) → SameSums f N J d e → (n : ℕ) → Page N n → ¬ (d n ≡ e n) →
    (J < weight N d + weight N e) × (J < N)
