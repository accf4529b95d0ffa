-- Tests over all numbers below a bound, which compute, and what a passed test says of each number.
use Rattle.std.specs.Prelude.{◌≡◌, Bool, true, false, ℕ, zero, suc, ◌<◌, ◌≤◌, T, eqb}
use Rattle.std.proofs.Common.{sym, subst, ⊎_elim, not-suc-le-zero, eq-or-lt_of_le, arith, eqb→eq}

abbrev pub both : Bool → Bool → Bool
both true b = b
both false b = false

pub both_left : (a b : Bool) → T (both a b) → T a
both_left true b t = tt
both_left false b t = t

pub both_right : (a b : Bool) → T (both a b) → T b
both_right true b t = t
both_right false b t = absurd t

-- p holds of each number below n
abbrev pub every : (ℕ → Bool) → ℕ → Bool
every p zero = true
every p (suc n) = both (p n) (every p n)

every_at : (p : ℕ → Bool) (n : ℕ) → T (every p n) → (i : ℕ) → i < n → T (p i)
every_at p zero t i h = absurd (not-suc-le-zero h)
every_at p (suc n) t i h =
    let le : i ≤ n = omega arith in
    ⊎_elim (λ e. subst (λ (j : ℕ). T (p j)) (sym e) (both_left (p n) (every p n) t)) (λ k. every_at p n (both_right (p n) (every p n) t) i k) (eq-or-lt_of_le le)

-- f and g are equal below n
abbrev pub equal : (ℕ → ℕ) → (ℕ → ℕ) → ℕ → Bool
equal f g n = every (λ i. eqb (f i) (g i)) n

pub equal_at : (f g : ℕ → ℕ) (n : ℕ) → T (equal f g n) → (i : ℕ) → i < n → f i ≡ g i
equal_at f g n t i h = eqb→eq (f i) (g i) (every_at (λ j. eqb (f j) (g j)) n t i h)
