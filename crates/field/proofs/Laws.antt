-- What the laws of a field give.
use Rattle.std.proofs.Common.{◌≡◌, sym, ap, ◌∙◌, ℕ, zero, suc, ◌+◌, ◌*◌, ◌/◌, ◌%◌, ◌<◌, add-suc, add-zero, mul-suc, mul-zero, mod-eq_of_lt, arith}
use Rattle.std.proofs.Math.Nat.{mod-mod, zero-mod}
use Rattle.field.specs.Field.{Ops, Laws, Modular, power}
use Rattle.field.specs.Sums.{total}

module _ {f : Ops} (l : Laws f) where
  pub code_mod : (a : ℕ) → a < f.size → a % f.size ≡ a
  code_mod a h = mod-eq_of_lt h

  pub one_code : 1 < f.size
  one_code = omega (arith, l.size_least)

  -- a code with nothing added, and a code once
  pub plus_zero_code : (a : ℕ) → a < f.size → f.plus a 0 ≡ a
  plus_zero_code a h = l.plus_zero a ∙ code_mod a h

  pub times_one_code : (a : ℕ) → a < f.size → f.times a 1 ≡ a
  times_one_code a h = l.times_one a ∙ code_mod a h

  pub zero_plus : (a : ℕ) → f.plus 0 a ≡ a % f.size
  zero_plus a = l.plus_comm 0 a ∙ l.plus_zero a

  pub one_times : (a : ℕ) → f.times 1 a ≡ a % f.size
  one_times a = l.times_comm 1 a ∙ l.times_one a

  pub plus_mod_right : (a b : ℕ) → f.plus a (b % f.size) ≡ f.plus a b
  plus_mod_right a b = ap (f.plus a) (sym (l.plus_zero b)) ∙ sym (l.plus_assoc a b 0) ∙ plus_zero_code _ (l.plus_code a b)

  pub plus_mod_left : (a b : ℕ) → f.plus (a % f.size) b ≡ f.plus a b
  plus_mod_left a b = l.plus_comm (a % f.size) b ∙ plus_mod_right b a ∙ l.plus_comm b a

  pub times_mod_right : (a b : ℕ) → f.times a (b % f.size) ≡ f.times a b
  times_mod_right a b = ap (f.times a) (sym (l.times_one b)) ∙ sym (l.times_assoc a b 1) ∙ times_one_code _ (l.times_code a b)

  pub times_mod_left : (a b : ℕ) → f.times (a % f.size) b ≡ f.times a b
  times_mod_left a b = l.times_comm (a % f.size) b ∙ times_mod_right b a ∙ l.times_comm b a

  -- what is added can be taken off again
  pub plus_cancel : (a b c : ℕ) → f.plus a c ≡ f.plus b c → a % f.size ≡ b % f.size
  plus_cancel a b c e =
      let z : f.plus c (f.minus 0 c) ≡ 0 = l.plus_comm c (f.minus 0 c) ∙ l.minus_plus 0 c ∙ zero-mod f.size in
      let back : (x : ℕ) → f.plus (f.plus x c) (f.minus 0 c) ≡ x % f.size = λ x. l.plus_assoc x c (f.minus 0 c) ∙ ap (f.plus x) z ∙ l.plus_zero x in
      cc (back a, back b)

  -- the difference is the one code that, added to b, gives a
  pub minus_unique : (a b c : ℕ) → c < f.size → f.plus c b ≡ a % f.size → c ≡ f.minus a b
  minus_unique a b c h e =
      sym (code_mod c h) ∙ plus_cancel c (f.minus a b) b (e ∙ sym (l.minus_plus a b)) ∙ code_mod _ (l.minus_code a b)

  minus_mod_both : (a b : ℕ) → f.minus (a % f.size) (b % f.size) ≡ f.minus a b
  minus_mod_both a b =
      minus_unique a b _ (l.minus_code (a % f.size) (b % f.size))
      (sym (plus_mod_right _ b) ∙ l.minus_plus (a % f.size) (b % f.size) ∙ mod-mod a f.size)

  pub modular : Modular f
  modular = record {
    plus_mod = λ a b. plus_mod_right (a % f.size) b ∙ plus_mod_left a b;
    minus_mod = minus_mod_both;
    times_mod = λ a b. times_mod_right (a % f.size) b ∙ times_mod_left a b;
    inverse_mod = l.inverse_mod;
  }

  pub times_zero : (a : ℕ) → f.times a 0 ≡ 0
  times_zero a =
      let x = f.times a 0 in
      let zz : f.plus 0 0 ≡ 0 = l.plus_zero 0 ∙ zero-mod f.size in
      let e : f.plus x x ≡ f.plus 0 x = sym (l.times_plus a 0 0) ∙ ap (f.times a) zz ∙ sym (zero_plus x ∙ code_mod x (l.times_code a 0)) in
      sym (code_mod x (l.times_code a 0)) ∙ plus_cancel x 0 x e ∙ zero-mod f.size

  pub times_cancel : (a b c : ℕ) → (a % f.size ≡ 0 → ⊥) → f.times a b ≡ f.times a c → b % f.size ≡ c % f.size
  times_cancel a b c h e =
      let u = f.inverse a in
      let back : (x : ℕ) → f.times u (f.times a x) ≡ x % f.size = λ x. sym (l.times_assoc u a x) ∙ ap (λ y. f.times y x) (l.times_comm u a ∙ l.times_inverse a h) ∙ one_times x in
      cc (back b, back c)

  pub power_code : (a n : ℕ) → power f a n < f.size
  power_code a zero = one_code
  power_code a (suc n) = l.times_code (power f a n) a

  pub power_add : (a m n : ℕ) → power f a (m + n) ≡ f.times (power f a m) (power f a n)
  power_add a m zero = rw add-zero (sym (times_one_code _ (power_code a m)))
  power_add a m (suc n) =
      rw add-suc (ap (λ x. f.times x a) (power_add a m n) ∙ l.times_assoc (power f a m) (power f a n) a)

  pub power_mul : (a m n : ℕ) → power f a (m * n) ≡ power f (power f a m) n
  power_mul a m zero = ap (power f a) (mul-zero m)
  power_mul a m (suc n) = cc (mul-suc m n, power_add a (m * n) m, power_mul a m n)

  -- squaring the base halves the exponent
  pub power_square : (a n : ℕ) → power f (f.times a a) n ≡ power f a (2 * n)
  power_square a n =
      let e : power f a 2 ≡ f.times a a = ap (λ x. f.times x a) (one_times a) ∙ times_mod_left a a in
      cc (power_mul a 2 n)

  pub power_nonzero : (a n : ℕ) → (a % f.size ≡ 0 → ⊥) → power f a n ≡ 0 → ⊥
  power_nonzero a zero h e = let k : ◌≡◌ {A = ℕ} 1 0 = e in omega arith
  power_nonzero a (suc n) h e =
      power_nonzero a n h
      (sym (code_mod (power f a n) (power_code a n))
      ∙ times_cancel a (power f a n) 0 h (l.times_comm a (power f a n) ∙ e ∙ sym (times_zero a))
      ∙ zero-mod f.size)

  pub total_code : (n : ℕ) (e : ℕ → ℕ) → total f n e < f.size
  total_code zero e = omega (arith, l.size_least)
  total_code (suc n) e = l.plus_code (total f n e) (e (suc n))

  -- one turn of a power by squaring
  pub square_odd : (p b n : ℕ) → n % 2 ≡ 1 → f.times (f.times p b) (power f (f.times b b) (n / 2)) ≡ f.times p (power f b n)
  square_odd p b n e =
      let h = n / 2 in
      let is : n ≡ suc (2 * h) = omega arith in
      let last : power f b n ≡ f.times (power f b (2 * h)) b = ap (power f b) is in
      cc (power_square b h, l.times_assoc p b (power f b (2 * h)), l.times_comm b (power f b (2 * h)))

  pub square_even : (p b n : ℕ) → (n % 2 ≡ 1 → ⊥) → f.times p (power f (f.times b b) (n / 2)) ≡ f.times p (power f b n)
  square_even p b n e =
      let is : n ≡ 2 * (n / 2) = omega arith in
      cc (power_square b (n / 2))
