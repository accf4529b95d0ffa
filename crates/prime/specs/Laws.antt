-- The whole numbers modulo 65,537 are a field, and the powers of 3 are spread over its places.
use Rattle.std.specs.Prelude.{◌≡◌, refl, ℕ, ◌+◌, ◌-◌, ◌*◌, ◌/◌, ◌%◌, ◌<◌}
use Rattle.std.proofs.Common.{sym, ap, ◌∙◌, add_comm, add_assoc, add-zero, mul_comm, mul_assoc, mul-add, mul-one, mod-lt, pos_of_ne-zero, le_refl, arith, lit<, lit≤}
use Rattle.std.proofs.Math.Nat.{mod-mod, mod-add-mod, add-mod-mod, add-mod, div-add-mod, add-mul-mod_self_left}
use Rattle.std.proofs.lemmas.Nat.{mul-mod_first, mul-mod_second}
use Rattle.field.specs.Field.{Laws, Spread}
use Rattle.field.proofs.Walk.{spread}
use Rattle.prime.specs.Prime.{prime, inverse_in}
use Rattle.prime.specs.Inverse.{inverse_right, inverse_below}

undone : (a b : ℕ) → ((a + (65537 - b % 65537)) % 65537 + b) % 65537 ≡ a % 65537
undone a b =
    let small : b % 65537 < 65537 = mod-lt b (lit< tt) in
    let e : a + (65537 - b % 65537) + b ≡ a + 65537 * (1 + b / 65537) = omega (arith, div-add-mod b 65537) in
    mod-add-mod (a + (65537 - b % 65537)) 65537 b ∙ ap (λ x. x % 65537) e ∙ add-mul-mod_self_left a 65537 (1 + b / 65537)

pub prime_laws : Laws prime
prime_laws = record {
  size_least = lit≤ tt;
  size_most = lit≤ tt;
  alpha_code = lit< tt;
  plus_code = λ a b. mod-lt (a + b) (lit< tt);
  minus_code = λ a b. mod-lt (a + (65537 - b % 65537)) (lit< tt);
  times_code = λ a b. mod-lt (a * b) (lit< tt);
  inverse_code = λ a. inverse_below (a % 65537) (a % 65537) (mod-lt a (lit< tt));
  plus_comm = λ a b. ap (λ x. x % 65537) (add_comm a b);
  plus_assoc = λ a b c. cc (mod-add-mod (a + b) 65537 c, add_assoc a b c, add-mod-mod a (b + c) 65537);
  plus_zero = λ a. ap (λ x. x % 65537) (add-zero a);
  minus_plus = λ a b. undone a b;
  times_comm = λ a b. ap (λ x. x % 65537) (mul_comm a b);
  times_assoc = λ a b c. cc (mul-mod_first (a * b) c 65537, mul_assoc a b c, mul-mod_second a (b * c) 65537);
  times_one = λ a. ap (λ x. x % 65537) (mul-one a);
  times_plus = λ a b c. cc (mul-mod_second a (b + c) 65537, mul-add a b c, add-mod (a * b) (a * c) 65537);
  times_inverse = λ a h. sym (mul-mod_first a _ 65537) ∙ inverse_right (a % 65537) (a % 65537) (pos_of_ne-zero h) (mod-lt a (lit< tt)) (le_refl _);
  inverse_zero = λ a z. ap (λ x. inverse_in x x) z;
  inverse_mod = λ a. ap (λ x. inverse_in x x) (mod-mod a 65537);
}

pub prime_spread : Spread prime
prime_spread = spread prime_laws (λ e. let z : ◌≡◌ {A = ℕ} 3 0 = e in omega arith) 1919 refl tt
