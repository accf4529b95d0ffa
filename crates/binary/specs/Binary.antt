-- The fields of 2^w elements: an element is a word of w bits, a sum of powers of x, and x is 2.
-- Products are taken modulo a polynomial of degree w, which is written with its top bit, 2^w.
use Rattle.std.specs.Prelude.{◌≡◌, ℕ, zero, suc, ◌-◌, ◌*◌, ◌/◌, ◌%◌, ◌^◌, ◌<◌}
use Rattle.std.specs.Int.Bits.{bit_xor}
use Rattle.field.specs.Field.{Ops}
use Rattle.field.specs.declared.limits.TheConstants.{PAGE_LIMIT}

-- poly has degree w, which is 2 or more, so that x is a word, and less than 32
pub record Degree (w poly : ℕ) : Type 0 where
  pub some : 1 < w
  pub few : w < 32
  pub top : poly / 2 ^ w ≡ 1

-- a times x, reduced
abbrev pub shifted : ℕ → ℕ → ℕ → ℕ
shifted w poly a = bit_xor (a * 2) (a * 2 / 2 ^ w % 2 * poly)

-- a times the n low bits of b
unfoldable pub product : ℕ → ℕ → ℕ → ℕ → ℕ → ℕ
product w poly zero a b = 0
product w poly (suc n) a b = bit_xor (b % 2 * a) (product w poly n (shifted w poly a) (b / 2))

-- a times b, both counted modulo 2^w
abbrev pub times : ℕ → ℕ → ℕ → ℕ → ℕ
times w poly a b = product w poly w (a % 2 ^ w) (b % 2 ^ w)

-- a squared n times: a to the power 2^n
unfoldable pub squared : ℕ → ℕ → ℕ → ℕ → ℕ
squared w poly zero a = a
squared w poly (suc n) a = times w poly (squared w poly n a) (squared w poly n a)

-- the product of a, a^2, a^4, .., n of them
unfoldable pub chain : ℕ → ℕ → ℕ → ℕ → ℕ
chain w poly zero a = 1
chain w poly (suc n) a = times w poly (chain w poly n a) (squared w poly n a)

-- The inverse of a is a^2 a^4 .. , w - 1 of them, which is a to the power 2^w - 2.
abbrev pub binary : ℕ → ℕ → ℕ → Ops
binary w poly places = record {
  size = 2 ^ w;
  places = places;
  plus = λ a b. bit_xor a b % 2 ^ w;
  minus = λ a b. bit_xor a b % 2 ^ w;
  times = times w poly;
  inverse = λ a. chain w poly (w - 1) (times w poly a a);
  alpha = 2;
}

-- the field of 256 elements, modulo x^8 + x^4 + x^3 + x^2 + 1
abbrev pub small : Ops
small = binary 8 285 255

-- the field of 65536 elements, modulo x^16 + x^12 + x^3 + x + 1
abbrev pub wide : Ops
wide = binary 16 69643 PAGE_LIMIT
