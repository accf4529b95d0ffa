-- Judging the rows of a tally: what is refused, and what the tally holds after each outcome.
use Rattle.std.specs.Prelude.{◌≡◌, ℕ, ◌≤◌, List, [], ◌∷◌}
use Rattle.field.specs.Field.{Ops, page_limit}
use Rattle.refusal.specs.Rules.{Rule, Within, unless}
use Rattle.scheme.specs.Farm.{Table}
use Rattle.scheme.specs.Askings as rules
use Rattle.tally.specs.Rows.{Filled, tally_size}
use Rattle.tally.specs.declared.outcome.Outcome.{Outcome}
use Rattle.tally.specs.declared.outcome.Outcome.TheVariants.{Over, Split, Filled as RowsFilled, Asks}

-- the number of stations, of pages, then the bound
abbrev pub farm_range : Ops → (M N bound : ℕ) → List Rule
farm_range f M N bound = unless (Within 3 8 M) 1 2 ∷ unless (Within 1 (page_limit f) N) 1 3 ∷ unless (Within 1 64 bound) 1 4 ∷ []

-- the number of stations, of pages, the bound, then a tally that is too short
abbrev pub judging : Ops → (M N bound room : ℕ) → List Rule
judging f M N bound room =
    unless (Within 3 8 M) 1 2 ∷ unless (Within 1 (page_limit f) N) 1 3 ∷ unless (Within 1 64 bound) 1 4 ∷ unless (tally_size M N ≤ room) 2 1 ∷ []

-- It ends as the rules say; the rows that are filled then stand in the tally, and with any other outcome it is what it was.
abbrev pub Ends : (M N : ℕ) → (rules.Outcome → Type 0) → (before after : List ℕ) → Outcome → Type 0
Ends M N Says before after Over = Says rules.over × (after ≡ before)
Ends M N Says before after (Split n) = Says (rules.split n) × (after ≡ before)
Ends M N Says before after RowsFilled = (R : Table) × Says (rules.filled R) × Filled M N before after R
Ends M N Says before after (Asks k) = Says (rules.asks k) × (after ≡ before)
