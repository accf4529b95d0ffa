-- Arrays of words: what stands where after a write.
use Rattle.std.proofs.Common.{◌≡◌, ℕ, ◌<◌, set, replicate, ◌∙◌, arith, get_or-set_other}
use Rattle.std.proofs.lemmas.List.{get_or-replicate}
use Rattle.solve.specs.Polynomials.{at}

-- 1 first, and 0 after it
pub one_first : (n i : ℕ) → 0 < i → i < n → at (set (replicate n 0) 0 1) i ≡ 0
one_first n i lo hi = get_or-set_other (replicate n 0) 0 i 1 0 (λ e. omega arith) ∙ get_or-replicate n i 0 0 hi
