-- Products of words are linear, commutative and associative, for every width w and every polynomial of degree w.
use Rattle.std.specs.Prelude.{◌≡◌, ◌⊎◌, refl, ℕ, zero, suc, ◌*◌, ◌/◌, ◌%◌, ◌^◌, ◌<◌}
use Rattle.std.proofs.Common.{sym, ap, subst, ◌∙◌, inl, inr, zero-mul, mod-lt, mod-eq_of_lt, div-lt_iff_lt-mul, pow-suc, le_of_suc-le-suc, not-suc-le-zero, arith, one-mul, pow_pos}
use Rattle.std.proofs.Math.Nat.{mod-mod, zero-div, div-eq_of_lt}
use Rattle.std.proofs.Math.Pow.{pow-lt}
use Rattle.std.specs.Int.Bits.{bit_xor, xor_zero_l, xor_zero_r, xor_lt, shifted_half, shifted_even}
use Rattle.std.proofs.lemmas.Nat.{xor_mod, xor_shr}
use Rattle.binary.specs.Binary.{shifted, product, times}
use Rattle.binary.specs.Linear.{Linear, bit, last_bit, bit_le, zero_of, sum_linear, linear_bit, bit_times, times_bit, doubled, agree}

module _ (w poly : ℕ) where
  abbrev q : ℕ
  q = 2 ^ w

  -- a times x, j times
  moved : ℕ → ℕ → ℕ
  moved zero a = a
  moved (suc j) a = moved j (shifted w poly a)

  shifted_linear : Linear (shifted w poly)
  shifted_linear =
      sum_linear (λ a. a * 2) (λ a. a * 2 / q % 2 * poly) doubled
      (λ x y. ap (λ u. u / q % 2 * poly) (doubled x y) ∙ ap (λ u. u % 2 * poly) (xor_shr (x * 2) (y * 2) w) ∙ bit_times poly (x * 2 / q) (y * 2 / q))

  product_left : (n b : ℕ) → Linear (λ a. product w poly n a b)
  unfolding product
  product_left zero b x y = refl
  product_left (suc n) b x y =
      sum_linear (λ a. b % 2 * a) (λ a. product w poly n (shifted w poly a) (b / 2)) (times_bit (b % 2) (last_bit b))
      (λ u v. cc (shifted_linear u v, product_left n (b / 2) (shifted w poly u) (shifted w poly v))) x y

  product_right : (n a : ℕ) → Linear (product w poly n a)
  unfolding product
  product_right zero a x y = refl
  product_right (suc n) a x y =
      sum_linear (λ b. b % 2 * a) (λ b. product w poly n (shifted w poly a) (b / 2)) (bit_times a)
      (λ u v. cc (xor_shr u v 1, product_right n (shifted w poly a) (u / 2) (v / 2))) x y

  -- a times x, times b, is a times b, times x
  product_shifted : (n a b : ℕ) → product w poly n (shifted w poly a) b ≡ shifted w poly (product w poly n a b)
  unfolding product
  product_shifted zero a b = sym (zero_of (shifted w poly) shifted_linear)
  product_shifted (suc n) a b =
      let rest = product w poly n (shifted w poly a) (b / 2) in
      cc (product_shifted n (shifted w poly a) (b / 2), linear_bit (shifted w poly) shifted_linear a (b % 2) (last_bit b), shifted_linear (b % 2 * a) rest)

  -- the product with 2^j
  product_power : (j n a : ℕ) → j < n → product w poly n a (2 ^ j) ≡ moved j a
  unfolding moved product
  product_power j zero a h = absurd (not-suc-le-zero h)
  product_power zero (suc n) a h =
      simp (one-mul, zero_of (product w poly n (shifted w poly a)) (product_right n (shifted w poly a)), xor_zero_r)
  product_power (suc j) (suc n) a h =
      let even : 2 ^ suc j % 2 ≡ 0 = subst (λ (x : ℕ). x % 2 ≡ 0) (one-mul (2 ^ suc j)) (shifted_even 1 j) in
      let half : 2 ^ suc j / 2 ≡ 2 ^ j = subst (λ (x : ℕ). x / 2 ≡ 2 ^ j) (one-mul (2 ^ suc j)) (shifted_half 1 j ∙ one-mul (2 ^ j)) in
      let rest = product w poly n (shifted w poly a) (2 ^ suc j / 2) in
      cc (even, zero-mul a, xor_zero_l rest, half, product_power j n (shifted w poly a) (le_of_suc-le-suc h))

  moved_shifted : (j a : ℕ) → moved j (shifted w poly a) ≡ shifted w poly (moved j a)
  unfolding moved
  moved_shifted zero a = refl
  moved_shifted (suc j) a = moved_shifted j (shifted w poly a)

  moved_moved : (i j a : ℕ) → moved i (moved j a) ≡ moved j (moved i a)
  unfolding moved
  moved_moved zero j a = refl
  moved_moved (suc i) j a = ap (moved i) (sym (moved_shifted j a)) ∙ moved_moved i j (shifted w poly a)

  -- below the degree nothing is taken off
  power_moved : (i : ℕ) → i < w → 2 ^ i ≡ moved i 1
  unfolding moved
  power_moved zero h = refl
  power_moved (suc i) h =
      let up : 2 ^ i * 2 / q ≡ 0 = ap (λ u. u / q) (sym (pow-suc 2 i)) ∙ div-eq_of_lt (pow-lt h) in
      let is : shifted w poly (2 ^ i) ≡ 2 ^ suc i = ap (λ u. bit_xor (2 ^ i * 2) (u % 2 * poly)) up ∙ cc (zero-mul poly, xor_zero_r (2 ^ i * 2), pow-suc 2 i) in
      cc (power_moved i (omega arith), moved_shifted i 1)

  abbrev t : ℕ → ℕ → ℕ
  t = times w poly

  pub times_left : (b : ℕ) → Linear (λ a. t a b)
  times_left b x y = ap (λ u. product w poly w u (b % q)) (xor_mod x y w) ∙ product_left w (b % q) _ _

  pub times_right : (a : ℕ) → Linear (t a)
  times_right a x y = ap (product w poly w (a % q)) (xor_mod x y w) ∙ product_right w (a % q) _ _

  pub times_zero : (a : ℕ) → t a 0 ≡ 0
  times_zero a = zero_of (t a) (times_right a)

  times_power : (a j : ℕ) → j < w → t a (2 ^ j) ≡ moved j (a % q)
  times_power a j h = ap (product w poly w (a % q)) (mod-eq_of_lt (pow-lt h)) ∙ product_power j w (a % q) h

  pub times_reduce : (a b : ℕ) → t a (b % q) ≡ t a b
  times_reduce a b = ap (product w poly w (a % q)) (mod-mod b q)

  pub reduce : (a b : ℕ) → t (a % q) (b % q) ≡ t a b
  reduce a b = times_reduce (a % q) b ∙ ap (λ x. product w poly w x (b % q)) (mod-mod a q)

  pub code : (a : ℕ) → a % q < q
  code a = mod-lt a (pow_pos w)

  -- the product with 2 is one shift
  times_two : (a : ℕ) → 1 < w → t a 2 ≡ shifted w poly (a % q)
  unfolding moved
  times_two a h = times_power a 1 h

  pub times_one : (a : ℕ) → 0 < w → t a 1 ≡ a % q
  unfolding moved
  times_one a h = times_power a 0 h

  powers_comm : (i j : ℕ) → i < w → j < w → t (2 ^ i) (2 ^ j) ≡ t (2 ^ j) (2 ^ i)
  powers_comm i j h k =
      let low : 2 ^ i % q ≡ moved i 1 = mod-eq_of_lt (pow-lt h) ∙ power_moved i h in
      let up : 2 ^ j % q ≡ moved j 1 = mod-eq_of_lt (pow-lt k) ∙ power_moved j k in
      cc (times_power (2 ^ i) j k, moved_moved j i 1, times_power (2 ^ j) i h)

  pub comm : (a b : ℕ) → t a b ≡ t b a
  comm a b =
      sym (reduce a b)
      ∙ agree (λ x. t x (b % q)) (t (b % q)) (times_left (b % q)) (times_right (b % q)) w
      (λ i h. agree (t (2 ^ i)) (λ y. t y (2 ^ i)) (times_right (2 ^ i)) (times_left (2 ^ i)) w (λ j k. powers_comm i j h k) (b % q) (code b))
      (a % q) (code a)
      ∙ reduce b a

  module _ (degree : poly / q ≡ 1) where
    -- the top bit of the polynomial takes off the bit that came up
    top_off : (b : ℕ) → (b ≡ 0) ⊎ (b ≡ 1) → bit_xor b (b % 2 * poly / q) ≡ 0
    top_off b (inl e) = simp (e, zero-mul, zero-div)
    top_off b (inr e) = simp (e, one-mul, degree)

    pub shifted_code : (a : ℕ) → a < q → shifted w poly a < q
    shifted_code a h =
        let up = a * 2 / q in
        let one_bit : up < 2 = (div-lt_iff_lt-mul (pow_pos w)).1 (omega arith) in
        let off : shifted w poly a / q ≡ 0 = xor_shr (a * 2) (up % 2 * poly) w ∙ top_off up (bit up one_bit) in
        subst (λ (y : ℕ). shifted w poly a < y) (one-mul q) ((div-lt_iff_lt-mul (pow_pos w)).0 (omega (arith, off)))

    product_code : (n a b : ℕ) → a < q → product w poly n a b < q
    unfolding product
    product_code zero a b h = pow_pos w
    product_code (suc n) a b h =
        xor_lt w (b % 2 * a) (product w poly n (shifted w poly a) (b / 2)) (omega (arith, bit_le b a)) (product_code n (shifted w poly a) (b / 2) (shifted_code a h))

    pub times_code : (a b : ℕ) → t a b < q
    times_code a b = product_code w (a % q) (b % q) (code a)

    -- the product with 2, plus c, without a product
    pub shifted_plus : (a c : ℕ) → 1 < w → bit_xor (shifted w poly (a % q)) (c % q) ≡ bit_xor (t a 2) c % q
    shifted_plus a c h =
        ap (λ x. bit_xor x (c % q)) (sym (times_two a h) ∙ sym (mod-eq_of_lt (times_code a 2))) ∙ sym (xor_mod (t a 2) c w)

    times_shifted : (a b : ℕ) → b < q → t a (shifted w poly b) ≡ shifted w poly (t a b)
    times_shifted a b h =
        let reduced : shifted w poly b % q ≡ shifted w poly (b % q) = mod-eq_of_lt (shifted_code b h) ∙ ap (shifted w poly) (sym (mod-eq_of_lt h)) in
        cc (comm a (shifted w poly b), product_shifted w (b % q) (a % q), comm b a)

    times_moved : (j a b : ℕ) → b < q → t a (moved j b) ≡ moved j (t a b)
    unfolding moved
    times_moved zero a b h = refl
    times_moved (suc j) a b h = times_moved j a (shifted w poly b) (shifted_code b h) ∙ ap (moved j) (times_shifted a b h)

    assoc_power : (a b j : ℕ) → j < w → t (t a b) (2 ^ j) ≡ t a (t b (2 ^ j))
    assoc_power a b j h =
        let reduced : t a b % q ≡ t a b = mod-eq_of_lt (times_code a b) in
        cc (times_power (t a b) j h, times_reduce a b, times_moved j a (b % q) (code b), times_power b j h)

    pub assoc : (a b c : ℕ) → t (t a b) c ≡ t a (t b c)
    assoc a b c =
        sym (times_reduce (t a b) c)
        ∙ agree (t (t a b)) (λ x. t a (t b x)) (times_right (t a b)) (λ x y. ap (t a) (times_right b x y) ∙ times_right a (t b x) (t b y)) w (assoc_power a b) (c % q) (code c)
        ∙ ap (t a) (times_reduce b c)
