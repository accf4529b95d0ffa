-- What holds of three stations, as what holds of any number.
use Rattle.std.proofs.Common.{◌≡◌, ℕ, ◌≤◌, List, sym, subst, inl, inr}
use Rattle.field.specs.Field.{Ops}
use Rattle.scheme.specs.Askings.{first_sums}
use Rattle.scheme.specs.Farm.{Table}
use Rattle.tally.specs.Rows as tally
use Rattle.tally.specs.declared.outcome.Outcome.{Outcome}
use Rattle.tally.specs.declared.outcome.Outcome.TheVariants.{Over, Split, Filled, Asks}
use Rattle.pairs.specs.declared.pair_gaps.PairGaps.{PairGaps}
use Rattle.pairs.specs.Solving.{PairsSolved}
use Rattle.three.specs.Outcomes.{WeighedThree, SettledThree}
use Rattle.verdict.specs.Judging.{Weighed, Settled}

module _ (f : Ops) (M N bound : ℕ) (is : M ≡ 3) where
  pub room : (size : ℕ) → tally.tally_size M N ≤ size → tally.tally_size 3 N ≤ size
  room size x = subst (λ k. tally.tally_size k N ≤ size) is x

  pub solved : (T : Table) (g : PairGaps) → PairsSolved f M N (first_sums M bound) T g → PairsSolved f 3 N (first_sums 3 bound) T g
  solved T g x = subst (λ k. PairsSolved f k N (first_sums k bound) T g) is x

  module _ (before after : List ℕ) where
    filled : (R : Table) → tally.Filled 3 N before after R → tally.Filled M N before after R
    filled R x = subst (λ k. tally.Filled k N before after R) (sym is) x

    pub weighed : (o : Outcome) → WeighedThree f N bound before after o → Weighed f M N bound before after o
    weighed Over x = (inr (is, x.0), x.1)
    weighed (Split n) x = absurd x.0
    weighed Filled x = (x.0, inr (is, x.1), filled x.0 x.2)
    weighed (Asks k) x = (inr (is, x.0), x.1)

    pub settled : (o : Outcome) → SettledThree f N bound before after o → Settled f M N bound before after o
    settled Over (inl x, same) = (inl (inr (is, x)), same)
    settled Over (inr x, same) = (inr ((x.0.0, inr (is, x.0.1)), inr (is, x.1)), same)
    settled (Split n) (inl x, same) = absurd x
    settled (Split n) (inr x, same) = absurd x.1
    settled Filled (R, inl x, rows) = (R, inl (inr (is, x)), filled R rows)
    settled Filled (R, inr x, rows) = (R, inr ((x.0.0, inr (is, x.0.1)), inr (is, x.1)), filled R rows)
    settled (Asks k) x = absurd x.0
