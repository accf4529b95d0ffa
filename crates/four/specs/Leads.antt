-- What is answered of the difference of the station aside from the leads of the others.
use Rattle.std.specs.Prelude.{ℕ}
use Rattle.field.specs.Field.{Ops}
use Rattle.scheme.specs.Askings.{all_sums}
use Rattle.scheme.specs.Differences.{Gaps}
use Rattle.scheme.specs.Farm.{Table}
use Rattle.scheme.specs.Four.{sum_from_leads}
use Rattle.pairs.specs.Difference.{Answered}
use Rattle.pairs.specs.declared.difference.Difference.{Difference}

-- T are the sums that are told, E the differences of the others, i the station aside
abbrev pub LeadsAnswered : (f : Ops) (M N bound : ℕ) (T : Table) (E : Gaps) (i : ℕ) → Difference → Type 0
LeadsAnswered f M N bound T E i = Answered f N bound (all_sums N bound) (sum_from_leads f M N bound T E i)
