-- The cards of the two farms that are checked: their stray copies, their majorities, and the page that has none.
use Rattle.std.proofs.Common.{◌≡◌, ℕ, ◌+◌, ◌≤◌, ◌<◌, refl, inl, inr, Bool, true, false, cond, arith}
use lib.Dec.{eqb}
use Rattle.std.proofs.lemmas.Bool.{eqb-true}
use Rattle.algebra.specs.Vectors.{Page}
use Rattle.prime.specs.Prime.{prime}
use Rattle.scheme.specs.Askings.{Plain}
use Rattle.scheme.specs.Farm.{Decided, holders, strays}
use Rattle.calls.specs.Steady.{copies}
use Rattle.calls.specs.Promise.{Differs}
use Rattle.desk.specs.Copies.{cards}
use Rattle.worked.specs.Checks.{one_bad, two_halves}
use Rattle.worked.proofs.EachOne.{each_page}

pub four_not_plain : (bound : ℕ) → bound < 3 → ¬ Plain 4 3 bound
four_not_plain bound low (inl x) = omega arith
four_not_plain bound low (inr x) = omega arith

pub one_stray : strays 4 (copies (cards prime 3 one_bad)) 3 ≤ 1
one_stray = let e : strays 4 (copies (cards prime 3 one_bad)) 3 ≡ 1 = refl in omega arith

pub two_stray : strays 4 (copies (cards prime 3 two_halves)) 3 ≤ 2
two_stray = let e : strays 4 (copies (cards prime 3 two_halves)) 3 ≡ 2 = refl in omega arith

pub one_bad_decided : (n : ℕ) → Page 3 n → Decided 4 (copies (cards prime 3 one_bad)) n
one_bad_decided = each_page (Decided 4 (copies (cards prime 3 one_bad)))
    (3, let h : holders 4 (copies (cards prime 3 one_bad)) 1 3 ≡ 4 = refl in omega arith)
    (0, let h : holders 4 (copies (cards prime 3 one_bad)) 2 0 ≡ 3 = refl in omega arith)
    (5, let h : holders 4 (copies (cards prime 3 one_bad)) 3 5 ≡ 4 = refl in omega arith)

pub one_bad_differs : Differs 4 (copies (cards prime 3 one_bad)) 4 2
one_bad_differs = (0, (let h : holders 4 (copies (cards prime 3 one_bad)) 2 0 ≡ 3 = refl in omega arith), λ e. let z : ◌≡◌ {A = ℕ} 7 0 = e in omega arith)

-- of two that differ v is at most one, so no v is held by more than two of two and two
two_and_two : (v : ℕ) (a b : Bool) → eqb 5 v ≡ a → eqb 6 v ≡ b → cond a 1 0 + cond b 1 0 ≤ 1
two_and_two v true true x y = absurd (let z : ⊥ = omega (arith, eqb-true 5 v x, eqb-true 6 v y) in z)
two_and_two v true false x y = omega arith
two_and_two v false true x y = omega arith
two_and_two v false false x y = omega arith

pub two_halves_undecided : ¬ Decided 4 (copies (cards prime 3 two_halves)) 1
two_halves_undecided (v, most) =
    let h : holders 4 (copies (cards prime 3 two_halves)) 1 v ≡ 0 + cond (eqb 5 v) 1 0 + cond (eqb 5 v) 1 0 + cond (eqb 6 v) 1 0 + cond (eqb 6 v) 1 0 = refl in
    omega (arith, h, most, two_and_two v (eqb 5 v) (eqb 6 v) refl refl)

pub two_halves_decided : (n : ℕ) → Page 3 n → 2 ≤ n → Decided 4 (copies (cards prime 3 two_halves)) n
two_halves_decided = each_page (λ n. 2 ≤ n → Decided 4 (copies (cards prime 3 two_halves)) n)
    (λ more. absurd (let z : ⊥ = omega arith in z))
    (λ more. (0, (let h : holders 4 (copies (cards prime 3 two_halves)) 2 0 ≡ 4 = refl in omega arith)))
    (λ more. (0, (let h : holders 4 (copies (cards prime 3 two_halves)) 3 0 ≡ 4 = refl in omega arith)))
