-- What weighing and settling three stations come to, by the rows of a tally.
use Rattle.std.specs.Prelude.{ℕ, List}
use Rattle.field.specs.Field.{Ops}
use Rattle.scheme.specs.Askings as rules
use Rattle.scheme.specs.Ending.{Concludes}
use Rattle.scheme.specs.Weighing.{WeighsThree}
use Rattle.scheme.specs.Settling.{SettlesThree}
use Rattle.tally.specs.Rows.{sum_in, signature_in}
use Rattle.tally.specs.Judging.{Ends}
use Rattle.tally.specs.declared.outcome.Outcome.{Outcome}

module _ (f : Ops) (N bound : ℕ) (before after : List ℕ) where
  -- how the sums in the tally weigh three stations, where row 1 is known, and how they settle them
  abbrev pub Weighs : rules.Outcome → Type 0
  Weighs = WeighsThree f N bound (sum_in before N) (signature_in before N 1)

  abbrev pub Settles : rules.Outcome → Type 0
  Settles = SettlesThree f N bound (sum_in before N) (sum_in before N) (signature_in before N 1)

  abbrev pub WeighedThree : Outcome → Type 0
  WeighedThree = Ends 3 N Weighs before after

  abbrev pub SettledTaken : Outcome → Type 0
  SettledTaken = Ends 3 N Settles before after

  -- worked out anew: what weighing comes to, or where it asks a station again what settling does
  abbrev pub SettledThree : Outcome → Type 0
  SettledThree = Ends 3 N (Concludes Weighs Settles) before after
