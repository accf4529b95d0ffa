-- Polynomials by their coefficients, as functions of the place, the constant at place 0; and what locates and what has given roots.
use Rattle.std.specs.Prelude.{◌≡◌, ℕ, zero, suc, ◌-◌, ◌<◌, ◌≤◌, cond, List, length, nat_lt, slice_index}
use Rattle.field.specs.Field.{Ops}

-- what stands at place i, from 0
abbrev pub at : List ℕ → ℕ → ℕ
at row i = slice_index row i

-- the polynomial with the k coefficients of p from place i on, at x
abbrev pub value : Ops → ℕ → (ℕ → ℕ) → ℕ → ℕ → ℕ
value f zero p i x = 0
value f (suc k) p i x = f.plus (f.times (value f k p (suc i) x) x) (p i)

-- the k coefficients of p from place i on, against s j, s (j + 1), ..
abbrev pub window : Ops → ℕ → (ℕ → ℕ) → ℕ → (ℕ → ℕ) → ℕ → ℕ
window f zero p i s j = 0
window f (suc k) p i s j = f.plus (f.times (p i) (s j)) (window f k p (suc i) s (suc j))

-- p times x^a
abbrev pub shifted : ℕ → (ℕ → ℕ) → ℕ → ℕ
shifted a p i = cond (nat_lt i a) 0 (p (i - a))

-- the quotient by x - a of the polynomial with the coefficients p 0 .. p m
abbrev pub quotient : Ops → ℕ → (ℕ → ℕ) → ℕ → ℕ → ℕ
quotient f m p a k = value f (m - k) p (suc k) a

-- p locates t pages: monic, of degree at most t, and 0 against each of the first t windows of s
pub record Locates (f : Ops) (t : ℕ) (s : ℕ → ℕ) (p : List ℕ) : Type 0 where
  pub degree : ℕ
  pub terms : length p ≡ suc degree
  pub short : degree ≤ t
  pub monic : at p degree ≡ 1
  pub clears : (j : ℕ) → j < t → window f (length p) (at p) 0 s j ≡ 0

-- p is monic of degree m, with x 0 .. x (m - 1) for roots
pub record Product (f : Ops) (m : ℕ) (x p : ℕ → ℕ) : Type 0 where
  pub monic : p m ≡ 1
  pub roots : (i : ℕ) → i < m → value f (suc m) p 0 (x i) ≡ 0

-- the entry at the point a of a vector with the sums s, where p has the m points of its entries for roots
abbrev pub interpolated : Ops → ℕ → (ℕ → ℕ) → ℕ → (ℕ → ℕ) → ℕ
interpolated f m p a s = f.times (window f m (quotient f m p a) 0 s 0) (f.inverse (f.times a (value f m (quotient f m p a) 0 a)))
