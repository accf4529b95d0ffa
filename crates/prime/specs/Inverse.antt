-- 65,537 is prime, and each number that it does not divide has its inverse.
use Rattle.std.specs.Prelude.{◌≡◌, refl, Bool, true, false, cond, ℕ, zero, suc, ◌+◌, ◌-◌, ◌*◌, ◌/◌, ◌%◌, ◌<◌, ◌≤◌, T, eqb, ltb}
use Rattle.std.proofs.Common.{sym, ap, subst, ◌∙◌, ⊎_elim, mul_comm, mul_assoc, mul_left_comm, pos_of_ne-zero, mul-add, mul-one, mod-lt, mod-eq_of_lt, not-suc-le-zero, eq-zero-or-pos, eq-or-lt_of_le, div-le_self, le_refl, arith, lit<, ltb-true, ltb-false, le-ltb}
use Rattle.std.proofs.Math.Nat.{div-add-mod, mul-add-mod_self_left}
use Rattle.std.proofs.lemmas.Nat.{mul-mod_first, mul-mod_second}
use Rattle.field.proofs.Walk.{unless, unless_left, unless_right}
use Rattle.prime.specs.Prime.{inverse_in}

-- 65537 has no divisor among 2 .. n + 1
abbrev sieve : ℕ → Bool
sieve zero = true
sieve (suc n) = unless (eqb (65537 % (n + 2)) 0) (sieve n)

sieve_at : (n k : ℕ) → T (sieve n) → k < n → 65537 % (k + 2) ≡ 0 → ⊥
sieve_at zero k t h e = absurd (not-suc-le-zero h)
sieve_at (suc n) k t h e =
    let le : k ≤ n = omega arith in
    ⊎_elim (λ q. unless_left _ _ t (subst (λ (x : ℕ). T (eqb x 0)) (sym (ap (λ x. 65537 % (x + 2)) (sym q) ∙ e)) tt))
    (λ lt. sieve_at n k (unless_right _ _ t) lt e) (eq-or-lt_of_le le)

no_divisor : (x : ℕ) → 2 ≤ x → x < 65537 → 65537 % x ≡ 0 → ⊥
no_divisor x h2 hp e =
    let is : x ≡ x - 2 + 2 = omega arith in
    sieve_at 65535 (x - 2) tt (omega arith) (ap (λ y. 65537 % y) (sym is) ∙ e)

-- from the inverse v of the remainder r to that of x
turn : (x q r v : ℕ) → 1 ≤ x → q ≤ 65537 → x * q + r ≡ 65537 → r * v % 65537 ≡ 1 → x * (v * (65537 - q) % 65537) % 65537 ≡ 1
turn x q r v h hq e ih =
    let t = 65537 - q in
    let whole : x * (t + q) ≡ x * 65537 = ap (λ y. x * y) (let z : t + q ≡ 65537 = omega arith in z) in
    let xt : x * t ≡ 65537 * (x - 1) + r = omega (arith, whole, mul-add x t q) in
    let all : x * (v * t) ≡ 65537 * (v * (x - 1)) + r * v =
    cc (mul_left_comm x v t, mul-add v (65537 * (x - 1)) r, mul_left_comm v 65537 (x - 1), mul_comm v r) in
    cc (mul-mod_second x (v * t) 65537, mul-add-mod_self_left 65537 (v * (x - 1)) (r * v))

inverse_step : (n x : ℕ) → 0 < x → x < 65537 → x ≤ suc n → ((y : ℕ) → 0 < y → y < 65537 → y ≤ n → y * inverse_in n y % 65537 ≡ 1)
    → (b : Bool) → ltb x 2 ≡ b → x * cond b x (inverse_in n (65537 % x) * (65537 - 65537 / x) % 65537) % 65537 ≡ 1
inverse_step n x h0 hp hn ih true e =
    let is : x ≡ 1 = omega (arith, ltb-true x 2 e) in
    ap (λ y. y * y % 65537) is
inverse_step n x h0 hp hn ih false e =
    let h2 : 2 ≤ x = ltb-false x 2 e in
    let pos : 0 < 65537 % x = pos_of_ne-zero (no_divisor x h2 hp) in
    let below : 65537 % x < x = mod-lt 65537 h0 in
    let d = div-add-mod 65537 x in
    let hq : 65537 / x ≤ 65537 = div-le_self 65537 x in
    turn x (65537 / x) (65537 % x) (inverse_in n (65537 % x)) h0 hq d (ih (65537 % x) pos (omega arith) (omega arith))

pub inverse_right : (n x : ℕ) → 0 < x → x < 65537 → x ≤ n → x * inverse_in n x % 65537 ≡ 1
inverse_right zero x h0 hp hn = absurd (let z : ⊥ = omega arith in z)
inverse_right (suc n) x h0 hp hn = inverse_step n x h0 hp hn (inverse_right n) (ltb x 2) refl

inverse_under : (n x : ℕ) → x < 65537 → (b : Bool) → cond b x (inverse_in n (65537 % x) * (65537 - 65537 / x) % 65537) < 65537
inverse_under n x h true = h
inverse_under n x h false = mod-lt _ (lit< tt)

pub inverse_below : (n x : ℕ) → x < 65537 → inverse_in n x < 65537
inverse_below zero x h = h
inverse_below (suc n) x h = inverse_under n x h (ltb x 2)

-- more steps than are needed change nothing
more_step : (n m x : ℕ) → x ≤ suc n → x ≤ suc m → 0 < x → ((y : ℕ) → y ≤ n → y ≤ m → inverse_in n y ≡ inverse_in m y)
    → (b : Bool) → cond b x (inverse_in n (65537 % x) * (65537 - 65537 / x) % 65537) ≡ cond b x (inverse_in m (65537 % x) * (65537 - 65537 / x) % 65537)
more_step n m x hn hm h0 ih true = refl
more_step n m x hn hm h0 ih false =
    let below : 65537 % x < x = mod-lt 65537 h0 in
    ap (λ y. y * (65537 - 65537 / x) % 65537) (ih (65537 % x) (omega arith) (omega arith))

at_zero : (n : ℕ) → inverse_in n 0 ≡ 0
at_zero zero = refl
at_zero (suc n) = refl

more : (n m x : ℕ) → x ≤ n → x ≤ m → inverse_in n x ≡ inverse_in m x
more zero m x hn hm = let z : x ≡ 0 = omega arith in ap (inverse_in 0) z ∙ sym (at_zero m) ∙ ap (inverse_in m) (sym z)
more (suc n) zero x hn hm = let z : x ≡ 0 = omega arith in ap (inverse_in (suc n)) z ∙ ap (inverse_in 0) (sym z)
more (suc n) (suc m) x hn hm =
    ⊎_elim (λ z. ap (inverse_in (suc n)) z ∙ ap (inverse_in (suc m)) (sym z)) (λ h0. more_step n m x hn hm h0 (more n m) (ltb x 2)) (eq-zero-or-pos x)

opened : (m x : ℕ) → 1 < x → inverse_in (suc m) x ≡ inverse_in m (65537 % x) * (65537 - 65537 / x) % 65537
opened m x h = ap (λ b. cond b x (inverse_in m (65537 % x) * (65537 - 65537 / x) % 65537)) (le-ltb x 2 h)

one_step : (x m : ℕ) → 1 < x → x ≡ suc m → inverse_in x x ≡ inverse_in (65537 % x) (65537 % x) * (65537 - 65537 / x) % 65537
one_step x m h e =
    let below : 65537 % x < x = mod-lt 65537 (let z : 0 < x = omega arith in z) in
    ap (λ n. inverse_in n x) e ∙ opened m x h
    ∙ ap (λ y. y * (65537 - 65537 / x) % 65537) (more m (65537 % x) (65537 % x) (omega arith) (le_refl _))

-- one turn of the program's loop, its end and its start
pub inverse_turn : (s x : ℕ) → 1 < x → (s * (65537 - 65537 / x) % 65537) * inverse_in (65537 % x) (65537 % x) % 65537 ≡ s * inverse_in x x % 65537
inverse_turn s x h =
    let t = 65537 - 65537 / x in
    let v = inverse_in (65537 % x) (65537 % x) in
    cc (mul-mod_first (s * t) v 65537, mul_assoc s t v, mul_comm t v, mul-mod_second s (v * t) 65537, one_step x (x - 1) h (omega arith))

pub inverse_last : (s x : ℕ) → x ≤ 1 → s * inverse_in x x ≡ x * s
inverse_last s zero h = mul_comm s 0
inverse_last s (suc x) h = let z : x ≡ 0 = omega arith in ap (λ y. s * inverse_in (suc y) (suc y)) z ∙ mul_comm s 1 ∙ ap (λ y. suc y * s) (sym z)

pub inverse_first : (a : ℕ) → 1 * inverse_in (a % 65537) (a % 65537) % 65537 ≡ inverse_in (a % 65537) (a % 65537)
inverse_first a = ap (λ y. y % 65537) (mul_comm 1 _ ∙ mul-one _) ∙ mod-eq_of_lt (inverse_below _ _ (mod-lt a (lit< tt)))
