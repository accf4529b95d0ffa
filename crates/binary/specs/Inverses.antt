-- The words of w bits are a field wherever two tests pass at the powers of two, which compute.
use Rattle.std.specs.Prelude.{◌≡◌, ◌⊎◌, List, T, refl, ℕ, zero, suc, ◌-◌, ◌*◌, ◌/◌, ◌%◌, ◌^◌, ◌<◌, ◌≤◌}
use Rattle.std.proofs.Common.{sym, ap, ◌∙◌, div-add-mod', mod-lt, pow_mono, lit<, ⊎_elim, mod-eq_of_lt, arith}
use Rattle.std.proofs.Math.Nat.{mod-mod}
use Rattle.std.specs.Int.Bits.{bit_xor, xor_assoc, xor_self, xor_zero_l, xor_zero_r}
use Rattle.std.proofs.lemmas.Nat.{xor_comm, xor_mod, xor_shr, xor_lt}
use Rattle.field.specs.Field.{Laws}
use Rattle.binary.specs.Binary.{times, squared, chain, binary}
use Rattle.binary.specs.Tests.{equal, equal_at}
use Rattle.binary.specs.Linear.{Linear, bit, zero_of, sum_linear, doubled, agree, apply, apply_linear}
use Rattle.binary.specs.Products as products

-- What is computed of a field: each word is its own power 2^w, and the linear function with the values back makes x without its last bit from x^2 + x.
pub record Computed (w poly : ℕ) (back : List ℕ) : Type 0 where
  pub least : 8 ≤ w
  pub most : w ≤ 28
  pub degree : poly / 2 ^ w ≡ 1
  pub round : T (equal (λ i. squared w poly w (2 ^ i)) (λ i. 2 ^ i) w)
  pub undone : T (equal (λ i. apply back (bit_xor (times w poly (2 ^ i) (2 ^ i)) (2 ^ i))) (λ i. 2 ^ i / 2 * 2) w)

module _ (w poly : ℕ) (back : List ℕ) (given : Computed w poly back) where
  abbrev q : ℕ
  q = 2 ^ w

  abbrev t : ℕ → ℕ → ℕ
  t = times w poly

  comm : (a b : ℕ) → t a b ≡ t b a
  comm = products.comm w poly

  assoc : (a b c : ℕ) → t (t a b) c ≡ t a (t b c)
  assoc = products.assoc w poly given.degree

  times_code : (a b : ℕ) → t a b < q
  times_code = products.times_code w poly given.degree

  times_one : (a : ℕ) → t a 1 ≡ a % q
  times_one a = products.times_one w poly a (omega (arith, given.least))

  one_code : 1 < q
  one_code = omega (arith, pow_mono given.least)

  square_linear : Linear (λ x. t x x)
  square_linear x y =
      let twice : bit_xor (t x y) (bit_xor (t x y) (t y y)) ≡ t y y = sym (xor_assoc (t x y) (t x y) (t y y)) ∙ ap (λ u. bit_xor u (t y y)) (xor_self (t x y)) ∙ xor_zero_l (t y y) in
      products.times_left w poly (bit_xor x y) x y
      ∙ cc (products.times_right w poly x x y, products.times_right w poly y x y, comm y x, xor_assoc (t x x) (t x y) (bit_xor (t x y) (t y y)), twice)

  squared_linear : (n : ℕ) → Linear (squared w poly n)
  unfolding squared
  squared_linear zero x y = refl
  squared_linear (suc n) x y = cc (squared_linear n x y, square_linear (squared w poly n x) (squared w poly n y))

  rounded : (a : ℕ) → a < q → squared w poly w a ≡ a
  rounded a h = agree (squared w poly w) (λ x. x) (squared_linear w) (λ x y. refl) w (equal_at (λ i. squared w poly w (2 ^ i)) (λ i. 2 ^ i) w given.round) a h

  square_times : (a b : ℕ) → t (t a b) (t a b) ≡ t (t a a) (t b b)
  square_times a b =
      cc (assoc a b (t a b), assoc b a b, comm b a, assoc a b b, assoc a a (t b b))

  squared_first : (n a : ℕ) → squared w poly n (t a a) ≡ squared w poly (suc n) a
  unfolding squared
  squared_first zero a = refl
  squared_first (suc n) a = ap (λ u. t u u) (squared_first n a)

  chain_first : (n a : ℕ) → t a (chain w poly n (t a a)) ≡ chain w poly (suc n) a
  unfolding squared chain
  chain_first zero a = comm a 1
  chain_first (suc n) a =
      cc (assoc a (chain w poly n (t a a)) (squared w poly n (t a a)), chain_first n a, squared_first n a)

  chain_square : (n a : ℕ) → chain w poly n (t a a) ≡ t (chain w poly n a) (chain w poly n a)
  unfolding squared chain
  chain_square zero a = sym (times_one 1 ∙ mod-eq_of_lt one_code)
  chain_square (suc n) a =
      cc (chain_square n a, squared_first n a, square_times (chain w poly n a) (squared w poly n a))

  times_chain : (n a : ℕ) → a < q → t a (chain w poly n a) ≡ squared w poly n a
  unfolding squared chain
  times_chain zero a h = times_one a ∙ mod-eq_of_lt h
  times_chain (suc n) a h = cc (assoc a (chain w poly n a) (squared w poly n a), times_chain n a h)

  undo : (x : ℕ) → x < q → apply back (bit_xor (t x x) x) ≡ x / 2 * 2
  undo x h =
      let sum : Linear (λ y. bit_xor (t y y) y) = sum_linear (λ y. t y y) (λ y. y) square_linear (λ a b. refl) in
      agree (λ y. apply back (bit_xor (t y y) y)) (λ y. y / 2 * 2)
      (λ a b. ap (apply back) (sum a b) ∙ apply_linear back (bit_xor (t a a) a) (bit_xor (t b b) b))
      (λ a b. ap (λ u. u * 2) (xor_shr a b 1) ∙ doubled (a / 2) (b / 2)) w
      (equal_at (λ i. apply back (bit_xor (t (2 ^ i) (2 ^ i)) (2 ^ i))) (λ i. 2 ^ i / 2 * 2) w given.undone) x h

  -- where x^2 + x is 0, x is 0 but for its last bit: only 0 and 1 are their own squares
  own_square : (x : ℕ) → x < q → t x x ≡ x → (x ≡ 0) ⊎ (x ≡ 1)
  own_square x h e =
      let z : x / 2 * 2 ≡ 0 = sym (undo x h) ∙ ap (apply back) (ap (λ u. bit_xor u x) e ∙ xor_self x) ∙ zero_of (apply back) (apply_linear back) in
      bit x (omega (arith, z, div-add-mod' x 2, mod-lt x (lit< {m = 0} {n = 2} tt)))

  -- The chain of w is the power 2^w - 1. It is its own square, so it is 0 or 1, and 0 only where a is.
  full_square : (n a : ℕ) → suc n ≡ w → a < q → t (chain w poly (suc n) a) (chain w poly (suc n) a) ≡ chain w poly (suc n) a
  unfolding chain
  full_square n a is h =
      cc (chain_square (suc n) a, squared_first n a, rounded a h, comm (chain w poly n (t a a)) a, chain_first n a)

  full_one : (n a : ℕ) → suc n ≡ w → a < q → (a ≡ 0 → ⊥) → chain w poly (suc n) a ≡ 1
  unfolding chain
  full_one n a is h nonzero =
      ⊎_elim
      (λ e. absurd (nonzero (cc (rounded a h, times_chain (suc n) a h, products.times_zero w poly a))))
      (λ e. e) (own_square (chain w poly (suc n) a) (times_code (chain w poly n a) (squared w poly n a)) (full_square n a is h))

  chain_code : (n a : ℕ) → chain w poly n a < q
  unfolding chain
  chain_code zero a = one_code
  chain_code (suc n) a = times_code (chain w poly n a) (squared w poly n a)

  abbrev inverse : ℕ → ℕ
  inverse a = chain w poly (w - 1) (t a a)

  inverse_mod : (a : ℕ) → inverse (a % q) ≡ inverse a
  inverse_mod a = ap (chain w poly (w - 1)) (products.reduce w poly a a)

  inverted : (a : ℕ) → (a % q ≡ 0 → ⊥) → t a (inverse a) ≡ 1
  inverted a nonzero =
      let is : suc (w - 1) ≡ w = omega (arith, given.least) in
      let code : inverse a % q ≡ inverse a = mod-eq_of_lt (chain_code (w - 1) (t a a)) in
      cc (products.reduce w poly a (inverse a), inverse_mod a, chain_first (w - 1) (a % q), full_one (w - 1) (a % q) is (products.code w poly a) nonzero)

  chain_zero : (n : ℕ) → 0 < n → chain w poly n 0 ≡ 0
  unfolding chain
  chain_zero zero h = absurd (let z : ⊥ = omega arith in z)
  chain_zero (suc n) h = ap (t (chain w poly n 0)) (zero_of (squared w poly n) (squared_linear n)) ∙ products.times_zero w poly (chain w poly n 0)

  inverse_zero : (a : ℕ) → a % q ≡ 0 → inverse a ≡ 0
  inverse_zero a e =
      sym (inverse_mod a) ∙ ap inverse e ∙ ap (chain w poly (w - 1)) (products.times_zero w poly 0) ∙ chain_zero (w - 1) (omega (arith, given.least))

  xor_reduce : (a b : ℕ) → bit_xor (a % q) b % q ≡ bit_xor a b % q
  xor_reduce a b = cc (xor_mod (a % q) b w, mod-mod a q, xor_mod a b w)

  pub laws : (places : ℕ) → Laws (binary w poly places)
  laws places = record {
    size_least = pow_mono given.least;
    size_most = pow_mono given.most;
    alpha_code = omega (arith, pow_mono given.least);
    plus_code = λ a b. products.code w poly (bit_xor a b);
    minus_code = λ a b. products.code w poly (bit_xor a b);
    times_code = times_code;
    inverse_code = λ a. chain_code (w - 1) (t a a);
    plus_comm = λ a b. ap (λ u. u % q) (xor_comm a b);
    plus_assoc = λ a b c. cc (xor_reduce (bit_xor a b) c, xor_assoc a b c, xor_comm a (bit_xor b c), xor_reduce (bit_xor b c) a, xor_comm (bit_xor b c % q) a);
    plus_zero = λ a. ap (λ u. u % q) (xor_zero_r a);
    minus_plus = λ a b. cc (xor_reduce (bit_xor a b) b, xor_assoc a b b, xor_self b, xor_zero_r a);
    times_comm = comm;
    times_assoc = assoc;
    times_one = times_one;
    times_plus = λ a b c.
        products.times_reduce w poly a (bit_xor b c)
        ∙ products.times_right w poly a b c
        ∙ sym (mod-eq_of_lt (xor_lt w (t a b) (t a c) (times_code a b) (times_code a c)));
    times_inverse = inverted;
    inverse_zero = inverse_zero;
    inverse_mod = inverse_mod;
  }
