-- Searches and counts over 1 .. n: the lowest that fails, and how many pass.
use Rattle.std.proofs.Common.{◌≡◌, ℕ, zero, suc, ◌+◌, ◌<◌, ◌≤◌, Bool, true, false, cond, [], ◌∷◌, ◌++◌, length, Some, None, Option, refl, ap, ◌∙◌, length-append, filter, arith}
use Rattle.std.specs.Option.{MatchOption}
use Rattle.std.specs.List.{range_with_len}
use Rattle.std.proofs.lemmas.List.Elements.{filter-append}
use Rattle.algebra.specs.Vectors.{Page}
use Rattle.scheme.specs.Farm.{Lowest, count}

-- the first at which a property fails is the lowest
pub lowest_of : (n : ℕ) (P : ℕ → Type 0) (r : Option ℕ) → MatchOption r ((k : ℕ) → Page n k → P k) (λ k. Page n k × (¬ P k) × ((i : ℕ) → 1 ≤ i → i < k → P i))
    → MatchOption r ((k : ℕ) → Page n k → P k) (Lowest n (λ k. ¬ P k))
lowest_of n P None h = h
lowest_of n P (Some k) h = (h.0, h.1, λ i from to fails. fails (h.2 i from to))

pub one_more : (a n k : ℕ) → a + n ≡ k → range_with_len a (suc n) ≡ range_with_len a n ++ k ∷ []
one_more a zero k e = ap (λ x. x ∷ []) (omega arith)
one_more a (suc n) k e = ap (λ xs. a ∷ xs) (one_more (a + 1) n k (omega arith))

passes : (b : Bool) (k : ℕ) → length (cond b (k ∷ []) []) ≡ cond b 1 0
passes true k = refl
passes false k = refl

-- how many of 1 .. n pass
pub passed : (test : ℕ → Bool) (n : ℕ) → length (filter test (range_with_len 1 n)) ≡ count n (λ k. cond (test k) 1 0)
passed test zero = refl
passed test (suc n) =
    ap (λ xs. length (filter test xs)) (one_more 1 n (suc n) (omega arith))
    ∙ ap length (filter-append test (range_with_len 1 n) (suc n ∷ []))
    ∙ length-append (filter test (range_with_len 1 n)) _
    ∙ ap (λ m. m + length (cond (test (suc n)) (suc n ∷ []) [])) (passed test n)
    ∙ ap (λ m. count n (λ k. cond (test k) 1 0) + m) (passes (test (suc n)) (suc n))
