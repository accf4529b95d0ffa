-- Listing the codes that are not 0.
use Rattle.std.specs.Prelude.{◌≡◌, ℕ, ◌<◌, ◌≤◌, List, length, get_or, slice_index_or}
use Rattle.solve.specs.declared.Entry.{Entry}
use Rattle.solve.specs.declared.candidates.Candidate.{Candidate}
use Rattle.solve.specs.Polynomials.{at}
use Rattle.solve.specs.Candidates.{pages_of}
use Rattle.solve.specs.Answer.{blank}

-- place i of the list has page g j and code v j, for some j below m
abbrev pub Stands : ℕ → (g v : ℕ → ℕ) → List Entry → ℕ → Type 0
Stands m g v list i = (j : ℕ) × (j < m) × ((get_or list i blank).page ≡ g j) × ((get_or list i blank).code ≡ v j)

-- the first k places are, in rising order, the pages g 0 .. g (m - 1) whose codes v are not 0; the others are blank
pub record Nonzeros (m : ℕ) (g v : ℕ → ℕ) (k : ℕ) (list : List Entry) : Type 0 where
  pub few : k ≤ m
  pub rising : (i j : ℕ) → i < j → j < k → (get_or list i blank).page < (get_or list j blank).page
  pub stands : (i : ℕ) → i < k → Stands m g v list i
  pub some : (i : ℕ) → i < k → ¬ ((get_or list i blank).code ≡ 0)
  pub all : (j : ℕ) → j < m → ¬ (v j ≡ 0) → (i : ℕ) × (i < k) × ((get_or list i blank).page ≡ g j)
  pub rest : (i : ℕ) → k ≤ i → slice_index_or list i blank ≡ blank

abbrev pub NonzerosOf : List Candidate → List ℕ → ℕ → List Entry → Type 0
NonzerosOf cs codes k list = Nonzeros (length cs) (at (pages_of cs)) (at codes) k list
