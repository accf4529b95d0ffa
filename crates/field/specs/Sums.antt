-- Totals over 1..n, and the sums of a row: one code a page, pages counted from 1.
use Rattle.std.specs.Prelude.{◌≡◌, ◌≤◌, List, ℕ, zero, suc, ◌-◌, ◌*◌, get_or}
use Rattle.field.specs.Field.{Ops, power}

-- the total of e 1 .. e n
abbrev pub total : Ops → ℕ → (ℕ → ℕ) → ℕ
total f zero e = 0
total f (suc n) e = f.plus (total f n e) (e (suc n))

-- sum j of the row e of n pages: the total of e k times alpha^(j k), k from 1 to n
abbrev pub power_sum : Ops → ℕ → (ℕ → ℕ) → ℕ → ℕ
power_sum f n e j = total f n (λ k. f.times (e k) (power f f.alpha (j * k)))

-- what a list holds for page k
abbrev pub entry : List ℕ → ℕ → ℕ
entry row k = get_or row (k - 1) 0

-- of the pages 1 .. N, P relates each to e of it and to nothing else
abbrev pub Tells : (ℕ → ℕ → Type 0) → ℕ → (ℕ → ℕ) → Type 0
Tells P N e = (page code : ℕ) → 1 ≤ page → page ≤ N → P page code → code ≡ e page
