-- What is held of the pairs of stations: whether each has a solution, and the differences of any two stations.
use Rattle.std.specs.Prelude.{ℕ, ◌+◌, ◌-◌, ◌*◌, ◌/◌, Bool, cond, is_none, Some, None, Option, nat_lt, slice_get}
use Rattle.std.specs.Option.{unwrap_or}
use Rattle.field.specs.Field.{Ops}
use Rattle.solve.specs.Answer.{code_at}
use Rattle.scheme.specs.Differences.{Gaps}
use Rattle.pairs.specs.declared.difference.Difference.{Difference}
use Rattle.pairs.specs.declared.pair_gaps.PairGaps.{PairGaps}

-- where the pair s < t stands, from 0: the pairs with a lower t come first
abbrev pub pair_place : ℕ → ℕ → ℕ
pair_place s t = (t - 1) * (t - 2) / 2 + (s - 1)

-- what is held of the pair s < t of the stations 1 .. 8; nothing of any other two numbers
abbrev pub held : PairGaps → ℕ → ℕ → Option Difference
held g s t = cond (nat_lt 0 s) (cond (nat_lt s t) (cond (nat_lt t 9) (slice_get g.pairs (pair_place s t)) None) None) None

abbrev pub solved_code : Option Difference → ℕ → ℕ
solved_code (Some gap) n = code_at gap.list n
solved_code None n = 0

abbrev pub solved_weight : Option Difference → Option ℕ
solved_weight (Some gap) = gap.weight
solved_weight None = None

-- the weight of the difference of the pair s < t, if it has a solution
abbrev pub answered_weight : PairGaps → ℕ → ℕ → Option ℕ
answered_weight g s t = solved_weight (held g s t)

-- the code of page n in the difference of the pair s < t
abbrev pub code_of : PairGaps → ℕ → ℕ → ℕ → ℕ
code_of g s t n = solved_code (held g s t) n

-- the pair s < t has no solution
abbrev pub unsolved_in : PairGaps → ℕ → ℕ → Bool
unsolved_in g s t = is_none (answered_weight g s t)

abbrev pub weight_in : PairGaps → ℕ → ℕ → ℕ
weight_in g s t = unwrap_or (answered_weight g s t) 0

-- the difference of any two stations: for s < t as it is held, for s > t its negative
abbrev pub gaps_in : Ops → PairGaps → Gaps
gaps_in f g s t n = cond (nat_lt s t) (code_of g s t n) (cond (nat_lt t s) (f.minus 0 (code_of g t s n)) 0)
