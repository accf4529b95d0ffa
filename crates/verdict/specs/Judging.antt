-- What weighing and settling the rows of a tally come to, by the sums and the first row that it held before.
use Rattle.std.specs.Prelude.{ℕ, List}
use Rattle.field.specs.Field.{Ops}
use Rattle.scheme.specs.Askings as rules
use Rattle.scheme.specs.Ending.{Concludes}
use Rattle.scheme.specs.Weighing as weighing
use Rattle.scheme.specs.Settling as settling
use Rattle.tally.specs.Rows.{sum_in, signature_in}
use Rattle.tally.specs.Judging.{Ends}
use Rattle.tally.specs.declared.outcome.Outcome.{Outcome}

module _ (f : Ops) (M N bound : ℕ) (before after : List ℕ) where
  abbrev pub Weighs : rules.Outcome → Type 0
  Weighs = weighing.Weighs f M N bound (sum_in before N) (signature_in before N 1)

  abbrev pub Settles : rules.Outcome → Type 0
  Settles = settling.Settles f M N bound (sum_in before N) (sum_in before N) (signature_in before N 1)

  -- worked out anew: what weighing comes to, or where it asks a station again what settling does. Of these there is exactly one
  abbrev pub Comes : rules.Outcome → Type 0
  Comes = Concludes Weighs Settles

  abbrev pub Weighed : Outcome → Type 0
  Weighed = Ends M N Weighs before after

  abbrev pub Settled : Outcome → Type 0
  Settled = Ends M N Comes before after
