-- The whole numbers modulo 65,537, with alpha = 3 and 1,920 places.
use Rattle.std.specs.Prelude.{cond, ℕ, zero, suc, ◌+◌, ◌-◌, ◌*◌, ◌/◌, ◌%◌, ltb}
use Rattle.field.specs.Field.{Ops}
use Rattle.field.specs.declared.limits.TheConstants.{PAGE_LIMIT}

-- The inverse of x: since 65537 = (65537 / x) x + 65537 % x, it is -(65537 / x) times that of 65537 % x, in at most n steps.
abbrev pub inverse_in : ℕ → ℕ → ℕ
inverse_in zero x = x
inverse_in (suc n) x = cond (ltb x 2) x (inverse_in n (65537 % x) * (65537 - 65537 / x) % 65537)

abbrev pub prime : Ops
prime = record {
  size = 65537;
  places = PAGE_LIMIT;
  plus = λ a b. (a + b) % 65537;
  minus = λ a b. (a + (65537 - b % 65537)) % 65537;
  times = λ a b. a * b % 65537;
  inverse = λ a. inverse_in (a % 65537) (a % 65537);
  alpha = 3;
}
