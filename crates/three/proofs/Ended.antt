-- What settles by a pair that is taken is what the two judgements come to, and what weighing comes to where there are no more sums to ask for.
use Rattle.std.proofs.Common.{ℕ, ◌≤◌, List, refl, inl, inr, arith}
use native.Mathlib.Decide.{dec_le}
use Rattle.field.specs.Field.{Ops}
use Rattle.scheme.specs.Askings.{first_sums, all_sums, over, filled}
use Rattle.scheme.specs.Ending.{Concludes}
use Rattle.scheme.specs.Three.{Taken, third}
use Rattle.tally.specs.Rows.{sum_in}
use Rattle.tally.specs.declared.outcome.Outcome.{Outcome}
use Rattle.tally.specs.declared.outcome.Outcome.TheVariants.{Over, Split, Filled, Asks}
use Rattle.three.specs.Outcomes.{Weighs, Settles, SettledTaken, SettledThree, WeighedThree}

module _ (f : Ops) (N bound : ℕ) (before after : List ℕ) where
  pub taken_weighs : all_sums N bound ≤ first_sums 3 bound → (r : Outcome) → SettledTaken f N bound before after r → WeighedThree f N bound before after r
  taken_weighs told Over x = (inr (told, x.0), x.1)
  taken_weighs told (Split n) x = x
  taken_weighs told Filled x = (x.0, (told, x.1), x.2)
  taken_weighs told (Asks k) x = absurd x.0

  module _ (s t : ℕ) (e : ℕ → ℕ) (taken : Taken f N bound (sum_in before N) s t e) where
    -- it weighs at once, or asks the third again
    over_concludes : Settles f N bound before after over → Concludes (Weighs f N bound before after) (Settles f N bound before after) over
    over_concludes x = elim (dec_le (all_sums N bound) (first_sums 3 bound)) [
      | yes told ↦ inl (inr (told, x))
      | no more ↦ inr ((third s t, (omega arith, (s, t, e, taken, refl))), x)
    ]

    filled_concludes : (R : ℕ → ℕ → ℕ) → Settles f N bound before after (filled R) → Concludes (Weighs f N bound before after) (Settles f N bound before after) (filled R)
    filled_concludes R x = elim (dec_le (all_sums N bound) (first_sums 3 bound)) [
      | yes told ↦ inl (told, x)
      | no more ↦ inr ((third s t, (omega arith, (s, t, e, taken, refl))), x)
    ]

    pub taken_settles : (r : Outcome) → SettledTaken f N bound before after r → SettledThree f N bound before after r
    taken_settles Over x = (over_concludes x.0, x.1)
    taken_settles (Split n) x = absurd x.0
    taken_settles Filled x = (x.0, filled_concludes x.0 x.1, x.2)
    taken_settles (Asks k) x = absurd x.0
