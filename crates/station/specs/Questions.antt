-- What may be asked of a station with N pages: the signature of page 1 to N, and sum 1 to 128.
use Rattle.std.specs.Prelude.{ℕ, List, [], ◌∷◌}
use Rattle.field.specs.declared.limits.TheConstants.{SUM_LIMIT}
use Rattle.refusal.specs.Rules.{Rule, Within, unless}

abbrev pub asking_page : ℕ → ℕ → List Rule
asking_page N page = unless (Within 1 N page) 11 0 ∷ []

abbrev pub asking_sum : ℕ → List Rule
asking_sum j = unless (Within 1 SUM_LIMIT j) 11 0 ∷ []
