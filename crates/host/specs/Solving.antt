-- How another program's call to solve a difference ends.
use Rattle.std.specs.Prelude.{◌≡◌, List, ◌⊎◌, ℕ}
use Rattle.field.specs.Field.{Ops}
use Rattle.refusal.specs.Rules.{Accepted}
use Rattle.solve.specs.declared.Entry.{Entry}
use Rattle.solve.specs.Solution.{Solution, solving}
use Rattle.solve.specs.Answer.{Solved}
use Rattle.host.specs.Ending.{Lent, Fills}

-- a list of pages, and how many of it are written
pub record Listed : Type 0 where
  pub list : List Entry
  pub count : ℕ

-- the solution in the list; 254 where there is none, and nothing is written
abbrev pub Solves : Ops → (N t : ℕ) (values : List ℕ) → (before after : Lent Listed) → (status : ℕ) → Type 0
Solves f N t values before after status =
    Fills (solving f N t values) (λ old new. Solved f N t values new.count new.list) before after status
    ⊎ (Accepted (solving f N t values) × (status ≡ 254) × ((e : ℕ → ℕ) → Solution f N t values e → ⊥) × (after ≡ before))
