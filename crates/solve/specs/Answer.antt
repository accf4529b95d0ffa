-- A solution as a list of 129 places: rising pages with their codes, then page 0 and code 0.
use Rattle.std.specs.Prelude.{◌≡◌, ℕ, ◌<◌, ◌≤◌, cond, List, [], ◌∷◌, length, get_or, Some, None, Option, ◌==◌, ◌≢◌, slice_index_or}
use Rattle.field.specs.Field.{Ops}
use Rattle.algebra.specs.Vectors.{Page}
use Rattle.solve.specs.declared.Entry.{Entry}
use Rattle.solve.specs.Solution.{Solution}

abbrev pub blank : Entry
blank = record { page = 0; code = 0 }

-- the code that a list gives page n: what stands there before the first page 0, and 0 elsewhere
abbrev pub code_at : List Entry → ℕ → ℕ
code_at [] n = 0
code_at (x ∷ xs) n = cond (x.page == 0) 0 (cond (x.page == n) x.code (code_at xs n))

-- the first m places are rising pages of 1 to N, none with code 0; the others are blank
pub record Entries (N m : ℕ) (list : List Entry) : Type 0 where
  pub fits : m < length list
  pub rising : (i j : ℕ) → i < j → j < m → (get_or list i blank).page < (get_or list j blank).page
  pub pages : (i : ℕ) → i < m → Page N (get_or list i blank).page
  pub codes : (i : ℕ) → i < m → (get_or list i blank).code ≢ 0
  pub rest : (i : ℕ) → m ≤ i → slice_index_or list i blank ≡ blank

-- the list holds the one solution
pub record Solved (f : Ops) (N t : ℕ) (values : List ℕ) (m : ℕ) (list : List Entry) : Type 0 where
  pub listed : Entries N m list
  pub solves : Solution f N t values (code_at list)
  pub only : (e : ℕ → ℕ) → Solution f N t values e → (n : ℕ) → Page N n → e n ≡ code_at list n

-- how many pages the solution has, now in the list; or that there is none, and the list is what it was
abbrev pub Answer : Ops → (N t : ℕ) → List ℕ → (before after : List Entry) → Option ℕ → Type 0
Answer f N t values before after (Some m) = Solved f N t values m after
Answer f N t values before after None = ((e : ℕ → ℕ) → Solution f N t values e → ⊥) × (after ≡ before)
