-- The station outside three others, from the first of 1 to 3 that is none of them.
use Rattle.std.proofs.Common.{◌≡◌, ℕ, ◌<◌, ◌≤◌, true, false, Some, None, Option, MatchOption, refl, subst, sym, arith}
use Rattle.std.specs.Option.{unwrap_or}
use borrow.Author.Tests.{both_ways}
use Rattle.algebra.specs.Vectors.{Page}
use Rattle.scheme.specs.Pairs.{among}
use Rattle.scheme.proofs.Pairs.{among_true}
use Rattle.pairs.specs.Doubts.{Outside}

module _ (x y z : ℕ) (least : 1 ≤ x) (next : x < y) (last : y < z) where
  -- 4 is outside where 1, 2 and 3 are not
  fourth : ((k : ℕ) → Page 3 k → among x y z k ≡ true) → among x y z 4 ≡ false
  fourth all = elim (among x y z 4) as (λ b. among x y z 4 ≡ b → b ≡ false) [
    | true ↦ λ is. absurd (omega (arith, among_true x y z 1 (all 1 (omega arith)), among_true x y z 2 (all 2 (omega arith)), among_true x y z 3 (all 3 (omega arith)), among_true x y z 4 is))
    | false ↦ λ is. refl
  ] refl

  pub outside : (o : Option ℕ) → MatchOption o ((k : ℕ) → Page 3 k → among x y z k ≡ true)
      (λ k. Page 3 k × (among x y z k ≡ false) × ((i : ℕ) → 1 ≤ i → i < k → among x y z i ≡ true))
      → (r : ℕ) → r ≡ unwrap_or o 4 → Outside 4 x y z r
  outside (Some k) h r is = subst (Outside 4 x y z) (sym is) (omega arith, h.1, λ m from to not. both_ways (among x y z m) not (h.2 m from to))
  outside None h r is = subst (Outside 4 x y z) (sym is) (omega arith, fourth h, λ m from to not. both_ways (among x y z m) not (h m (omega arith)))
