-- What holds of four stations and more, as what holds of any number.
use Rattle.std.proofs.Common.{◌≡◌, ℕ, ◌+◌, ◌*◌, ◌/◌, ◌≤◌, cond, List, ap, subst, inl, inr, ne_eqb}
use Rattle.field.specs.Field.{Ops}
use Rattle.scheme.specs.Askings.{first_sums}
use Rattle.scheme.specs.Farm.{Table}
use Rattle.tally.specs.declared.outcome.Outcome.{Outcome}
use Rattle.tally.specs.declared.outcome.Outcome.TheVariants.{Over, Split, Filled, Asks}
use Rattle.pairs.specs.declared.pair_gaps.PairGaps.{PairGaps}
use Rattle.pairs.specs.Solving.{PairsSolved}
use Rattle.four.specs.Outcomes.{WeighedFour, SettledFour}
use Rattle.verdict.specs.Judging.{Weighed, Settled}

-- of four stations and more the bound is how many sums are asked for
pub solved : (f : Ops) (M N bound : ℕ) (T : Table) (g : PairGaps) → (M ≡ 3 → ⊥) → PairsSolved f M N (first_sums M bound) T g → PairsSolved f M N bound T g
solved f M N bound T g other x = subst (λ (h : ℕ). PairsSolved f M N h T g) (ap (λ t. cond t ((3 * bound + 1) / 2) bound) (ne_eqb M 3 other)) x

module _ (f : Ops) (M N bound : ℕ) (before after : List ℕ) (four : 4 ≤ M) where
  pub weighed : (o : Outcome) → WeighedFour f M N bound before after o → Weighed f M N bound before after o
  weighed Over x = (inl (four, x.0), x.1)
  weighed (Split n) x = (inl (four, x.0), x.1)
  weighed Filled x = (x.0, inl (four, x.1), x.2)
  weighed (Asks k) x = (inl (four, x.0), x.1)

  pub settled : (o : Outcome) → SettledFour f M N bound before after o → Settled f M N bound before after o
  settled Over (inl x, same) = (inl (inl (four, x)), same)
  settled Over (inr x, same) = (inr ((x.0.0, inl (four, x.0.1)), inl (four, x.1)), same)
  settled (Split n) (inl x, same) = (inl (inl (four, x)), same)
  settled (Split n) (inr x, same) = absurd x.1
  settled Filled (R, inl x, rows) = (R, inl (inl (four, x)), rows)
  settled Filled (R, inr x, rows) = (R, inr ((x.0.0, inl (four, x.0.1)), inl (four, x.1)), rows)
  settled (Asks k) x = absurd x.0
