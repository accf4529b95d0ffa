-- The places of signatures in a tally: they are different, and inside of it.
use Rattle.std.proofs.Common.{◌≡◌, ℕ, suc, ◌+◌, ◌-◌, ◌*◌, ◌<◌, ◌≤◌, ◌≢◌, sym, ap, mul-le-mul_right, suc-mul, arith}
use native.Mathlib.Decide.{dec_le}
use Rattle.algebra.specs.Vectors.{Page}
use Rattle.tally.specs.Rows.{row_start, signature_place, tally_size}

-- a row ends before any later one starts
pub row_below : (N s t : ℕ) → 1 ≤ s → s < t → row_start N s + (N + 128) ≤ row_start N t
row_below N s t lo up =
    let one : suc (s - 1) * (N + 128) ≡ (s - 1) * (N + 128) + (N + 128) = suc-mul (s - 1) (N + 128) in
    let more : suc (s - 1) * (N + 128) ≤ (t - 1) * (N + 128) = mul-le-mul_right (N + 128) (let le : suc (s - 1) ≤ t - 1 = omega arith in le) in
    omega (arith, one, more)

pub rows_apart : (N s t n m : ℕ) → 1 ≤ s → 1 ≤ t → s ≢ t → Page N n → Page N m → signature_place N s n ≢ signature_place N t m
rows_apart N s t n m a b other p q e = elim (dec_le s t) [
  | yes k ↦ omega (arith, row_below N s t a (omega arith))
  | no k ↦ omega (arith, row_below N t s b (omega arith))
]

-- rows and columns of a table of W columns
columns : (W a b x y : ℕ) → x < W → y < W → a * W + x ≡ b * W + y → a ≤ b → x ≡ y
columns W a b x y fx fy e le = elim (dec_le (suc a) b) [
  | yes less ↦ (let one : suc a * W ≡ a * W + W = suc-mul a W in let more : suc a * W ≤ b * W = mul-le-mul_right W less in omega (arith, one, more))
  | no k ↦ (let same : a ≡ b = omega arith in omega (arith, ap (λ i. i * W) same))
]

-- whatever the rows, different pages stand at different places
pub pages_apart : (N s t n m : ℕ) → n ≢ m → Page N n → Page N m → signature_place N s n ≢ signature_place N t m
pages_apart N s t n m other p q e = elim (dec_le (s - 1) (t - 1)) [
  | yes k ↦ omega (arith, columns (N + 128) (s - 1) (t - 1) (n - 1) (m - 1) (omega arith) (omega arith) e k)
  | no k ↦ omega (arith, columns (N + 128) (t - 1) (s - 1) (m - 1) (n - 1) (omega arith) (omega arith) (sym e) (omega arith))
]

pub inside : (N t n size : ℕ) → 1 ≤ t → Page N n → tally_size t N ≤ size → signature_place N t n < size
inside N t n size lo p fits =
    let one : suc (t - 1) * (N + 128) ≡ (t - 1) * (N + 128) + (N + 128) = suc-mul (t - 1) (N + 128) in
    let is : t * (N + 128) ≡ suc (t - 1) * (N + 128) = ap (λ k. k * (N + 128)) (let e : t ≡ suc (t - 1) = omega arith in e) in
    omega (arith, one, is)

pub fewer_rows : (N t M size : ℕ) → t ≤ M → tally_size M N ≤ size → tally_size t N ≤ size
fewer_rows N t M size few fits = let le : t * (N + 128) ≤ M * (N + 128) = mul-le-mul_right (N + 128) few in omega arith
