-- What ends at once is what weighing comes to; with it, and where a station is in doubt, so is what the two judgements come to.
use Rattle.std.proofs.Common.{◌≡◌, ℕ, List, inl, inr, refl, subst}
use Rattle.field.specs.Field.{Ops}
use Rattle.scheme.specs.Differences.{Gaps}
use Rattle.scheme.specs.Four.{Doubted, asked}
use Rattle.scheme.specs.Settling.{SettlesFour}
use Rattle.tally.specs.Rows.{sum_in, signature_in}
use Rattle.tally.specs.Judging.{Ends}
use Rattle.tally.specs.declared.outcome.Outcome.{Outcome}
use Rattle.tally.specs.declared.outcome.Outcome.TheVariants.{Over, Split, Filled, Asks}
use Rattle.pairs.specs.declared.pair_gaps.PairGaps.{PairGaps}
use Rattle.four.specs.Outcomes.{WeighedFour, SettledFour}
use Rattle.four.specs.Weighed.{EndsAtOnce}

module _ (f : Ops) (M N bound : ℕ) (g : PairGaps) (before after : List ℕ) where
  pub ended_weighs : (r : Outcome) → Ends M N (EndsAtOnce f M N bound g before after) before after r → WeighedFour f M N bound before after r
  ended_weighs Over x = x
  ended_weighs (Split n) x = x
  ended_weighs Filled x = x
  ended_weighs (Asks k) x = absurd x.0

  pub ended_settles : (r : Outcome) → Ends M N (EndsAtOnce f M N bound g before after) before after r → SettledFour f M N bound before after r
  ended_settles Over x = (inl x.0, x.1)
  ended_settles (Split n) x = (inl x.0, x.1)
  ended_settles Filled x = (x.0, inl x.1, x.2)
  ended_settles (Asks k) x = absurd x.0

  -- where the tally is as it was when the station was found to be in doubt
  pub doubted_settles : (E : Gaps) (i : ℕ) → Doubted f M N bound (sum_in before N) E i → (middle : List ℕ) → middle ≡ before → (r : Outcome) →
      Ends M N (SettlesFour f M N bound (sum_in middle N) (sum_in middle N) (signature_in middle N 1)) middle after r → SettledFour f M N bound before after r
  doubted_settles E i doubted middle e r x =
      settled r (subst (λ xs. Ends M N (SettlesFour f M N bound (sum_in xs N) (sum_in xs N) (signature_in xs N 1)) xs after r) e x)
    where
      settled : (r : Outcome) → Ends M N (SettlesFour f M N bound (sum_in before N) (sum_in before N) (signature_in before N 1)) before after r → SettledFour f M N bound before after r
      settled Over x = (inr ((asked i, (E, i, doubted, refl)), x.0), x.1)
      settled (Split n) x = absurd x.0
      settled Filled x = (x.0, inr ((asked i, (E, i, doubted, refl)), x.1), x.2)
      settled (Asks k) x = absurd x.0
