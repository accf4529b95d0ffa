-- What a search over the stations 2 .. M finds is the lowest place at which a property of stations holds.
use Rattle.std.proofs.Common.{ℕ, ◌<◌, ◌≤◌, Some, None, Option, arith}
use Rattle.std.specs.Option.{MatchOption}
use Rattle.refusal.specs.Rules.{Within, LowestAt}

pub lowest_station : (M : ℕ) (P : ℕ → Type 0) (r : Option ℕ)
    → MatchOption r ((k : ℕ) → Within 2 M k → ¬ P k) (λ k. Within 2 M k × P k × ((i : ℕ) → 2 ≤ i → i < k → ¬ P i))
    → MatchOption r ((s : ℕ) → Within 2 M s × P s → ⊥) (LowestAt (λ s. Within 2 M s × P s))
lowest_station M P None none = λ s at. none s at.0 at.1
lowest_station M P (Some k) first = (omega arith, (first.0, first.1), λ i from less at. first.2 i at.0.0 less at.1)
