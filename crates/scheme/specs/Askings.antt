-- How many sums are asked for, when all signatures are instead, and how an asking ends: M stations, N pages, a bound on stray copies.
use Rattle.std.specs.Prelude.{◌≡◌, cond, ◌⊎◌, ℕ, ◌<◌, ◌≤◌, ◌+◌, ◌*◌, ◌/◌, min, eqb}
use Rattle.scheme.specs.Farm.{Table}

-- sums 1 to this are asked of every station: the bound, and of three stations half as much again
abbrev pub first_sums : ℕ → ℕ → ℕ
first_sums M bound = cond (eqb M 3) ((3 * bound + 1) / 2) bound

-- sums 1 to this are told of a station that is asked again
abbrev pub all_sums : ℕ → ℕ → ℕ
all_sums N bound = min N (2 * bound)

-- all signatures are asked for
abbrev pub Plain : ℕ → ℕ → ℕ → Type 0
Plain M N bound = ((4 ≤ M) × (N ≤ bound)) ⊎ ((M ≡ 3) × (N < first_sums 3 bound))

-- it is over, a page is split, all rows are filled, or a station is to be asked again
pub data Outcome : Type 0 where
  over : Outcome
  split : ℕ → Outcome
  filled : Table → Outcome
  asks : ℕ → Outcome
