-- Three stations, after the first asking: the pair that is taken, who is asked again, and the rows.
use Rattle.std.specs.Prelude.{cond, ℕ, ◌<◌, ◌≤◌, ◌+◌, ◌-◌, eqb}
use Rattle.field.specs.Field.{Ops}
use Rattle.algebra.specs.Vectors.{weight, Solves}
use Rattle.scheme.specs.Farm.{Table}
use Rattle.scheme.specs.Askings.{first_sums, all_sums}
use Rattle.scheme.specs.Pairs.{Pair}
use Rattle.scheme.specs.Differences.{gap, Solution}

-- s and t are the pair whose solution e has the least weight; of equal ones the first of {1,2}, {1,3}, {2,3}, which is that of least total
pub record Taken (f : Ops) (N bound : ℕ) (T : Table) (s t : ℕ) (e : ℕ → ℕ) : Type 0 where
  pub pair : Pair 3 s t
  pub solved : Solution f N (first_sums 3 bound) T s t e
  pub least : (u v : ℕ) (d : ℕ → ℕ) → Pair 3 u v → Solution f N (first_sums 3 bound) T u v d → weight N e ≤ weight N d
  pub first : (u v : ℕ) (d : ℕ → ℕ) → Pair 3 u v → Solution f N (first_sums 3 bound) T u v d → u + v < s + t → weight N e < weight N d

-- who is compared with station 1 anew: 2 for the pair of 2 and 3, else the station outside the pair
abbrev pub third : ℕ → ℕ → ℕ
third s t = cond (eqb s 1) (5 - t) 2

-- d is the difference of row 1 from row k, by all sums
abbrev pub FromFirst : Ops → (N bound : ℕ) → Table → ℕ → (ℕ → ℕ) → Type 0
FromFirst f N bound T k d = Solves f N bound (all_sums N bound) (gap f T 1 k) d

-- the rows, where e is the difference of s and t and d that of 1 and the third: the remaining row is row s minus e
abbrev pub row_of_three : Ops → (own : ℕ → ℕ) → (s t : ℕ) → (e d : ℕ → ℕ) → Table
row_of_three f own s t e d r n =
    let row = f.minus (own n) (d n) in
    cond (eqb r 1) (own n) (cond (eqb r (third s t)) row (f.minus (cond (eqb s 1) (own n) row) (e n)))
