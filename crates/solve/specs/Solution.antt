-- What solving a difference seeks: the one light vector of codes with given first sums.
use Rattle.std.specs.Prelude.{◌≡◌, ℕ, ◌+◌, ◌≤◌, ◌⊎◌, List, [], ◌∷◌, length}
use Rattle.field.specs.Field.{Ops, page_limit}
use Rattle.field.specs.Sums.{entry}
use Rattle.field.specs.declared.limits.TheConstants.{SUM_LIMIT}
use Rattle.algebra.specs.Vectors.{Solves}
use Rattle.refusal.specs.Rules.{Rule, Within, unless, lowest}

-- e has a code for each page 1 to N, at most t of them not 0, and its sums are the values
abbrev pub Solution : Ops → (N t : ℕ) → List ℕ → (ℕ → ℕ) → Type 0
Solution f N t values e = Solves f N t (length values) (entry values) e

-- J sums are enough to tell a vector of weight t over N pages, and not too many
abbrev pub Enough : ℕ → ℕ → ℕ → Type 0
Enough N t J = ((J ≡ N) ⊎ (t + t ≤ J)) × (J ≤ SUM_LIMIT)

-- value j is no code
abbrev pub NoCode : Ops → List ℕ → ℕ → Type 0
NoCode f values j = f.size ≤ entry values j

-- what is refused: the number of pages, the number of values, then the first value that is no code
abbrev pub solving : Ops → ℕ → ℕ → List ℕ → List Rule
solving f N t values =
    unless (Within 1 (page_limit f) N) 1 3 ∷ unless (Enough N t (length values)) 1 6 ∷ lowest (NoCode f values) 8 ∷ []
