-- What comes after the first asking of four stations and more, and what the tally holds then.
use Rattle.std.specs.Prelude.{◌≡◌, ℕ, List}
use Rattle.field.specs.Field.{Ops}
use Rattle.scheme.specs.Askings as rules
use Rattle.scheme.specs.Four.{Doubted}
use Rattle.pairs.specs.declared.pair_gaps.PairGaps.{PairGaps}
use Rattle.pairs.specs.Held.{gaps_in}
use Rattle.tally.specs.Rows.{sum_in}
use Rattle.tally.specs.Judging.{Ends}
use Rattle.four.specs.declared.weighing.Weighing.{Weighing}
use Rattle.four.specs.declared.weighing.Weighing.TheVariants.{Ended, Doubted as InDoubt}
use Rattle.four.specs.Outcomes.{Weighs}

module _ (f : Ops) (M N bound : ℕ) (g : PairGaps) (before after : List ℕ) where
  -- what the first sums come to where nobody is asked again
  abbrev pub EndsAtOnce : rules.Outcome → Type 0
  EndsAtOnce rules.over = Weighs f M N bound before after rules.over
  EndsAtOnce (rules.split n) = Weighs f M N bound before after (rules.split n)
  EndsAtOnce (rules.filled R) = Weighs f M N bound before after (rules.filled R)
  EndsAtOnce (rules.asks k) = ⊥

  -- that, or by the differences that are held station i is in doubt
  abbrev pub Weighed : Weighing → Type 0
  Weighed (Ended outcome) = Ends M N EndsAtOnce before after outcome
  Weighed (InDoubt i) = Doubted f M N bound (sum_in before N) (gaps_in f g) i × (after ≡ before)
