-- What weighing and settling four stations and more come to, by the rows of a tally.
use Rattle.std.specs.Prelude.{ℕ, List}
use Rattle.field.specs.Field.{Ops}
use Rattle.scheme.specs.Askings as rules
use Rattle.scheme.specs.Ending.{Concludes}
use Rattle.scheme.specs.Weighing.{WeighsFour}
use Rattle.scheme.specs.Settling.{SettlesFour}
use Rattle.tally.specs.Rows.{sum_in, signature_in}
use Rattle.tally.specs.Judging.{Ends}
use Rattle.tally.specs.declared.outcome.Outcome.{Outcome}

module _ (f : Ops) (M N bound : ℕ) (before after : List ℕ) where
  abbrev pub Weighs : rules.Outcome → Type 0
  Weighs = WeighsFour f M N bound (sum_in before N) (signature_in before N 1)

  abbrev pub Settles : rules.Outcome → Type 0
  Settles = SettlesFour f M N bound (sum_in before N) (sum_in before N) (signature_in before N 1)

  abbrev pub WeighedFour : Outcome → Type 0
  WeighedFour = Ends M N Weighs before after

  -- worked out anew: what weighing comes to, or where it asks a station again what settling does
  abbrev pub SettledFour : Outcome → Type 0
  SettledFour = Ends M N (Concludes Weighs Settles) before after
