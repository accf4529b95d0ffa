-- Functions on words that keep sums of bits: two of them that agree at the powers of two agree everywhere.
use Rattle.std.specs.Prelude.{◌≡◌, refl, ◌⊎◌, List, [], ◌∷◌, ℕ, zero, suc, ◌*◌, ◌/◌, ◌%◌, ◌^◌, ◌<◌, ◌≤◌}
use Rattle.std.proofs.Common.{sym, ap, subst, ◌∙◌, inl, inr, ⊎_elim, zero-mul, one-mul, add-zero, mod-lt, div-add-mod', div-lt_iff_lt-mul, pow-suc, mul_comm, arith, pow_pos, lit<}
use Rattle.std.specs.Int.Bits.{bit_xor, xor_assoc, xor_self, xor_zero_l, xor_zero_r, xor_shifted}
use Rattle.std.proofs.lemmas.Nat.{xor_comm, xor_mod, xor_shr, xor_block}

abbrev pub Linear : (ℕ → ℕ) → Type 0
Linear f = (x y : ℕ) → f (bit_xor x y) ≡ bit_xor (f x) (f y)

pub bit : (x : ℕ) → x < 2 → (x ≡ 0) ⊎ (x ≡ 1)
bit zero h = inl refl
bit (suc x) h = inr (omega arith)

-- the last bit of a word is 0 or 1
pub last_bit : (x : ℕ) → (x % 2 ≡ 0) ⊎ (x % 2 ≡ 1)
last_bit x = bit (x % 2) (mod-lt x (lit< tt))

-- (a + b) + (c + d) = (a + c) + (b + d)
xor4 : (a b c d : ℕ) → bit_xor (bit_xor a b) (bit_xor c d) ≡ bit_xor (bit_xor a c) (bit_xor b d)
xor4 a b c d =
    cc (xor_assoc a b (bit_xor c d), xor_assoc b c d, xor_comm b c, xor_assoc c b d, xor_assoc a c (bit_xor b d))

pub zero_of : (f : ℕ → ℕ) → Linear f → f 0 ≡ 0
zero_of f l = let e : f 0 ≡ bit_xor (f 0) (f 0) = l 0 0 in e ∙ xor_self (f 0)

-- the sum of two linear functions
pub sum_linear : (f g : ℕ → ℕ) → Linear f → Linear g → Linear (λ x. bit_xor (f x) (g x))
sum_linear f g lf lg x y = cc (lf x y, lg x y, xor4 (f x) (f y) (g x) (g y))

bits_times : (x y a : ℕ) → (x ≡ 0) ⊎ (x ≡ 1) → (y ≡ 0) ⊎ (y ≡ 1) → bit_xor x y * a ≡ bit_xor (x * a) (y * a)
bits_times x y a (inl e) (inl k) = simp (e, k, zero-mul)
bits_times x y a (inl e) (inr k) = simp (e, k, zero-mul, one-mul, xor_zero_l)
bits_times x y a (inr e) (inl k) = simp (e, k, zero-mul, one-mul, xor_zero_r)
bits_times x y a (inr e) (inr k) = simp (e, k, zero-mul, one-mul, xor_self)

-- the last bit of x, times a
pub bit_times : (a : ℕ) → Linear (λ x. x % 2 * a)
bit_times a x y = ap (λ u. u * a) (xor_mod x y 1) ∙ bits_times (x % 2) (y % 2) a (last_bit x) (last_bit y)

-- a bit, times x
pub times_bit : (b : ℕ) → (b ≡ 0) ⊎ (b ≡ 1) → Linear (λ x. b * x)
times_bit b (inl e) x y = simp (e, zero-mul)
times_bit b (inr e) x y = simp (e, one-mul)

-- what a linear function makes of a bit times a
pub linear_bit : (f : ℕ → ℕ) → Linear f → (a b : ℕ) → (b ≡ 0) ⊎ (b ≡ 1) → f (b * a) ≡ b * f a
linear_bit f l a b (inl e) = simp (e, zero-mul) (zero_of f l)
linear_bit f l a b (inr e) = simp (e, one-mul)

pub bit_le : (b a : ℕ) → b % 2 * a ≤ a
bit_le b a = ⊎_elim (λ e. subst (λ (x : ℕ). x * a ≤ a) (sym e) (omega arith)) (λ e. subst (λ (x : ℕ). x * a ≤ a) (sym e) (omega arith)) (last_bit b)

pub doubled : Linear (λ x. x * 2)
doubled x y = sym (simp add-zero at (xor_block 1 x y 0 0 (lit< tt) (lit< tt)))

-- linear functions that agree at 2^i, i below n, agree below 2^n
pub agree : (f g : ℕ → ℕ) → Linear f → Linear g → (n : ℕ) → ((i : ℕ) → i < n → f (2 ^ i) ≡ g (2 ^ i)) → (x : ℕ) → x < 2 ^ n → f x ≡ g x
agree f g lf lg zero at x h = let z : x ≡ 0 = omega arith in ap f z ∙ zero_of f lf ∙ sym (zero_of g lg) ∙ ap g (sym z)
agree f g lf lg (suc n) at x h =
    let b = x / 2 ^ n in
    let r = x % 2 ^ n in
    let rl : r < 2 ^ n = mod-lt x (pow_pos n) in
    let split : x ≡ bit_xor (b * 2 ^ n) r = sym (xor_shifted b n r rl ∙ div-add-mod' x (2 ^ n)) in
    let bl : b < 2 = (div-lt_iff_lt-mul (pow_pos n)).1 (subst (λ (y : ℕ). x < y) (pow-suc 2 n ∙ mul_comm (2 ^ n) 2) h) in
    let low : f r ≡ g r = agree f g lf lg n (λ i k. at i (omega arith)) r rl in
    let high : f (b * 2 ^ n) ≡ g (b * 2 ^ n) = cc (linear_bit f lf (2 ^ n) b (bit b bl), at n (omega arith), linear_bit g lg (2 ^ n) b (bit b bl)) in
    cc (lf (b * 2 ^ n) r, lg (b * 2 ^ n) r)

-- the linear function with these values at 1, 2, 4, ..
abbrev pub apply : List ℕ → ℕ → ℕ
apply [] x = 0
apply (r ∷ rs) x = bit_xor (x % 2 * r) (apply rs (x / 2))

pub apply_linear : (rs : List ℕ) → Linear (apply rs)
apply_linear [] x y = refl
apply_linear (r ∷ rs) x y =
    sum_linear (λ u. u % 2 * r) (λ u. apply rs (u / 2)) (bit_times r) (λ u v. ap (apply rs) (xor_shr u v 1) ∙ apply_linear rs (u / 2) (v / 2)) x y
