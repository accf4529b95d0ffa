-- The order in which refusals are tried: a call is refused by the first rule that is due, and accepted if all are clear.
use Rattle.std.specs.Prelude.{◌≡◌, ℕ, ◌<◌, ◌≤◌, ◌⊎◌, List, [], ◌∷◌}
use Rattle.refusal.specs.declared.Refusal.{Refusal}
use Rattle.refusal.specs.Numbers.{number, place}

abbrev pub Within : ℕ → ℕ → ℕ → Type 0
Within least most n = (least ≤ n) × (n ≤ most)

-- when it refuses, and by what; what is known where it does not; and that it never does both
pub record Rule : Type 1 where
  pub due : Refusal → Type 0
  pub clear : Type 0
  pub apart : (r : Refusal) → clear → due r → ⊥

-- refuse by number n at place k unless p holds
abbrev pub unless : Type 0 → ℕ → ℕ → Rule
unless p n k = record { due = λ r. (p → ⊥) × (number r ≡ n) × (place r ≡ k); clear = p; apart = λ r holds due. due.0 holds }

-- refuse by number n at place k when p holds
abbrev pub when : Type 0 → ℕ → ℕ → Rule
when p n k = record { due = λ r. p × (number r ≡ n) × (place r ≡ k); clear = p → ⊥; apart = λ r clear due. clear due.0 }

-- k is the lowest place, from 1, at which p holds
abbrev pub LowestAt : (ℕ → Type 0) → ℕ → Type 0
LowestAt p k = (1 ≤ k) × p k × ((i : ℕ) → 1 ≤ i → i < k → p i → ⊥)

-- refuse by number n at the lowest place at which p holds
abbrev pub lowest : (ℕ → Type 0) → ℕ → Rule
lowest p n = record {
  due = λ r. (number r ≡ n) × LowestAt p (place r);
  clear = (k : ℕ) → 1 ≤ k → p k → ⊥;
  apart = λ r clear due. clear (place r) due.1.0 due.1.1;
}

abbrev pub Refused : List Rule → Refusal → Type 0
Refused [] r = ⊥
Refused (x ∷ xs) r = x.due r ⊎ (x.clear × Refused xs r)

abbrev pub Accepted : List Rule → Type 0
Accepted [] = Unit {0}
Accepted (x ∷ xs) = x.clear × Accepted xs

-- no call is both accepted and refused
abbrev pub Exclusive : List Rule → Type 0
Exclusive rules = (r : Refusal) → Accepted rules → Refused rules r → ⊥
