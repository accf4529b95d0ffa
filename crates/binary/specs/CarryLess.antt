-- What a product modulo a polynomial is: the product without carry, less a multiple of the polynomial, in w bits.
use Rattle.std.specs.Prelude.{◌≡◌, ℕ, zero, suc, ◌*◌, ◌/◌, ◌%◌, ◌^◌, ◌<◌}
use Rattle.std.specs.Int.Bits.{bit_xor}
use Rattle.binary.specs.Binary.{times}

-- a times the n low bits of b, without carry: the sum of a * 2^i over the bits i of b that are set
unfoldable pub carry_less : ℕ → ℕ → ℕ → ℕ
carry_less zero a b = 0
carry_less (suc n) a b = bit_xor (carry_less n a b) (b / 2 ^ n % 2 * (a * 2 ^ n))

-- a multiple of the polynomial is its product, without carry, with some word of w bits
abbrev pub Multiple : (w poly : ℕ) → ℕ → Type 0
Multiple w poly m = (k : ℕ) × (k < 2 ^ w) × (m ≡ carry_less w poly k)

-- of two words of w bits, the product differs from that without carry by a multiple of the polynomial, and is a word of w bits
pub record ReducedProduct (w poly a b : ℕ) : Type 0 where
  pub reduced : Multiple w poly (bit_xor (carry_less w (a % 2 ^ w) (b % 2 ^ w)) (times w poly a b))
  pub word : times w poly a b < 2 ^ w
