-- The first pair of stations that passes: from the stations gone through one by one, and to what the test says of a pair.
use Rattle.std.proofs.Common.{◌≡◌, ℕ, ◌<◌, ◌≤◌, is_some, Bool, true, false, Some, None, Option, MatchBool, arith}
use Rattle.std.specs.Option.{MatchOption}
use Rattle.algebra.specs.Vectors.{Page}
use Rattle.scheme.specs.Pairs.{Pair}
use Rattle.pairs.specs.Seeking.{FirstPair, FirstAfter}

module _ (M s : ℕ) (Passes Fails : ℕ → Type 0) where
  -- the lowest of 1 .. M that is above s and passes
  pub after : (r : Option ℕ)
      → MatchOption r ((k : ℕ) → Page M k → s < k → Fails k) (λ k. Page M k × ((s < k) × Passes k) × ((i : ℕ) → 1 ≤ i → i < k → s < i → Fails i))
      → FirstAfter M s Passes Fails r
  after (Some t) h = (h.1.0, h.0.1, h.1.1, λ u from to. h.2 u (omega arith) to from)
  after None h = λ t from to. h t (omega arith) from

-- the test's answers are `Passes` and `Fails`; what they say of a pair is `Yes` and `No`
module _ (M : ℕ) {Passes Fails : ℕ → ℕ → Type 0} (Yes No : ℕ → ℕ → Type 0) (yes : (s t : ℕ) → Pair M s t → Passes s t → Yes s t)
    (no : (s t : ℕ) → Pair M s t → Fails s t → No s t) where
  pub told : (r : Option (ℕ × ℕ)) → FirstPair M Passes Fails r → FirstPair M Yes No r
  told (Some p) h = (h.0, yes p.0 p.1 h.0 h.1, λ s t b before. no s t b (h.2 s t b before))
  told None h = λ s t b. no s t b (h s t b)

  pub some_pair : (r : Option (ℕ × ℕ)) (b : Bool) → b ≡ is_some r → FirstPair M Passes Fails r
      → MatchBool b ((s : ℕ) × (t : ℕ) × Pair M s t × Yes s t) ((s t : ℕ) → Pair M s t → No s t)
  some_pair (Some p) true is h = (p.0, p.1, h.0, yes p.0 p.1 h.0 h.1)
  some_pair None false is h = λ s t b. no s t b (h s t b)
  some_pair (Some p) false is h = absurd cc
  some_pair None true is h = absurd cc
