-- The product by steps is the product without carry, less a multiple of the polynomial.
use Rattle.std.proofs.Common.{◌≡◌, refl, sym, ap, ◌∙◌, ℕ, zero, suc, ◌*◌, ◌/◌, ◌%◌, ◌^◌, ◌<◌, zero-mul, mul_assoc, mul_comm, mul-one, pow-suc, pow_pos, arith}
use Rattle.std.proofs.Math.Nat.{div-div-eq-div-mul, div-one, div-eq_of_lt}
use Rattle.std.specs.Int.Bits.{bit_xor, xor_assoc, xor_self, xor_zero_r, xor_lt}
use Rattle.std.proofs.lemmas.Nat.{xor_comm, xor_shr}
use Rattle.binary.specs.Binary.{shifted, product, times}
use Rattle.binary.specs.CarryLess.{carry_less, ReducedProduct}
use Rattle.binary.specs.Linear.{Linear, last_bit, bit_le, sum_linear, linear_bit, bit_times, times_bit, doubled}
use Rattle.binary.specs.Products.{code, times_code}

-- the lowest bit first: a times it, and 2 a times the other bits
lowest_first : (n a b : ℕ) → carry_less (suc n) a b ≡ bit_xor (b % 2 * a) (carry_less n (a * 2) (b / 2))
unfolding carry_less
lowest_first zero a b = simp (xor_zero_r, div-one, mul-one)
lowest_first (suc n) a b =
    let low = b % 2 * a in
    let rest = carry_less n (a * 2) (b / 2) in
    let high = b / 2 / 2 ^ n % 2 * (a * 2 * 2 ^ n) in
    let power : 2 ^ suc n ≡ 2 * 2 ^ n = pow-suc 2 n ∙ mul_comm (2 ^ n) 2 in
    let bit : b / 2 ^ suc n ≡ b / 2 / 2 ^ n = ap (λ k. b / k) power ∙ sym (div-div-eq-div-mul b 2 (2 ^ n)) in
    let moved : a * 2 ^ suc n ≡ a * 2 * 2 ^ n = ap (λ k. a * k) power ∙ sym (mul_assoc a 2 (2 ^ n)) in
    cc (lowest_first n a b, bit, moved, xor_assoc low rest high)

left_linear : (n b : ℕ) → Linear (λ a. carry_less n a b)
unfolding carry_less
left_linear zero b x y = refl
left_linear (suc n) b x y =
    let sums = sum_linear (λ a. b % 2 * a) (λ a. carry_less n (a * 2) (b / 2)) (times_bit (b % 2) (last_bit b))
    (λ u v. ap (λ z. carry_less n z (b / 2)) (doubled u v) ∙ left_linear n (b / 2) (u * 2) (v * 2)) x y in
    cc (lowest_first n (bit_xor x y) b, sums, lowest_first n x b, lowest_first n y b)

right_linear : (n a : ℕ) → Linear (carry_less n a)
unfolding carry_less
right_linear zero a x y = refl
right_linear (suc n) a x y =
    sum_linear (carry_less n a) (λ b. b / 2 ^ n % 2 * (a * 2 ^ n)) (right_linear n a)
    (λ u v. ap (λ z. z % 2 * (a * 2 ^ n)) (xor_shr u v n) ∙ bit_times (a * 2 ^ n) (u / 2 ^ n) (v / 2 ^ n)) x y

-- a bit that is not set adds nothing
one_more : (n a b : ℕ) → b < 2 ^ n → carry_less (suc n) a b ≡ carry_less n a b
unfolding carry_less
one_more n a b h =
    ap (λ k. bit_xor (carry_less n a b) (k % 2 * (a * 2 ^ n))) (div-eq_of_lt h) ∙ ap (bit_xor (carry_less n a b)) (zero-mul (a * 2 ^ n)) ∙ xor_zero_r (carry_less n a b)

half_below : (n b : ℕ) → b < 2 ^ suc n → b / 2 < 2 ^ n
half_below n b h = omega (arith, h, pow-suc 2 n)

module _ (w poly : ℕ) where
  -- which word of bits the multiple that the n steps take off is of
  quotient : ℕ → ℕ → ℕ → ℕ
  quotient zero a b = 0
  quotient (suc n) a b = bit_xor (quotient n (shifted w poly a) (b / 2)) (a * 2 / 2 ^ w % 2 * (b / 2))

  quotient_word : (n a b : ℕ) → b < 2 ^ n → quotient n a b < 2 ^ n
  unfolding quotient
  quotient_word zero a b h = pow_pos 0
  quotient_word (suc n) a b h =
      let k = quotient n (shifted w poly a) (b / 2) in
      let c = a * 2 / 2 ^ w % 2 * (b / 2) in
      let half = half_below n b h in
      let below : bit_xor k c < 2 ^ n = xor_lt n k c (quotient_word n (shifted w poly a) (b / 2) half) (omega (arith, bit_le (a * 2 / 2 ^ w) (b / 2), half)) in
      omega (arith, below, pow-suc 2 n)

  -- how the product without carry and the multiple go on by one step
  step : (n a b : ℕ) → b < 2 ^ suc n → (rest : ℕ)
      → rest ≡ bit_xor (carry_less n (shifted w poly a) (b / 2)) (carry_less n poly (quotient n (shifted w poly a) (b / 2)))
      → bit_xor (b % 2 * a) rest ≡ bit_xor (carry_less (suc n) a b) (carry_less (suc n) poly (quotient (suc n) a b))
  unfolding quotient
  step n a b h rest is =
      let bit = a * 2 / 2 ^ w % 2 in
      let k = quotient n (shifted w poly a) (b / 2) in
      let low = b % 2 * a in
      let plain = carry_less n (a * 2) (b / 2) in
      let more = carry_less n (bit * poly) (b / 2) in
      let multiple = carry_less n poly k in
      let half = half_below n b h in
      let word : bit_xor k (bit * (b / 2)) < 2 ^ n = xor_lt n k (bit * (b / 2)) (quotient_word n (shifted w poly a) (b / 2) half) (omega (arith, bit_le (a * 2 / 2 ^ w) (b / 2), half)) in
      let left : carry_less n (shifted w poly a) (b / 2) ≡ bit_xor plain more = left_linear n (b / 2) (a * 2) (bit * poly) in
      let out : more ≡ bit * carry_less n poly (b / 2) = linear_bit (λ x. carry_less n x (b / 2)) (left_linear n (b / 2)) poly bit (last_bit (a * 2 / 2 ^ w)) in
      let inside : carry_less n poly (bit * (b / 2)) ≡ bit * carry_less n poly (b / 2) =
      linear_bit (carry_less n poly) (right_linear n poly) (b / 2) bit (last_bit (a * 2 / 2 ^ w)) in
      let right : carry_less n poly (bit_xor k (bit * (b / 2))) ≡ bit_xor multiple more = right_linear n poly k (bit * (b / 2)) ∙ ap (bit_xor multiple) (inside ∙ sym out) in
      cc (
        is,
        left,
        lowest_first n a b,
        one_more n poly (bit_xor k (bit * (b / 2))) word,
        right,
        xor_assoc plain more multiple,
        xor_comm more multiple,
        xor_assoc low plain (bit_xor multiple more),
      )

  taken_off : (n a b : ℕ) → b < 2 ^ n → product w poly n a b ≡ bit_xor (carry_less n a b) (carry_less n poly (quotient n a b))
  unfolding product quotient carry_less
  taken_off zero a b h = sym (xor_self 0)
  taken_off (suc n) a b h = step n a b h _ (taken_off n (shifted w poly a) (b / 2) (half_below n b h))

  pub products : poly / 2 ^ w ≡ 1 → (a b : ℕ) → ReducedProduct w poly a b
  products degree a b =
      let x = a % 2 ^ w in
      let y = b % 2 ^ w in
      let plain = carry_less w x y in
      let k = quotient w x y in
      let multiple = carry_less w poly k in
      let is : times w poly a b ≡ bit_xor plain multiple = taken_off w x y (code w poly b) in record {
        reduced = (k, quotient_word w x y (code w poly b), cc (is, xor_assoc plain plain multiple, xor_self plain, xor_comm 0 multiple, xor_zero_r multiple));
        word = times_code w poly degree a b;
      }
