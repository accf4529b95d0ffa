-- The lightest pair by what is held is the pair that the rules take, by the sums.
use Rattle.std.proofs.Common.{◌≡◌, ℕ, false, is_none, Some, None, Option, refl, ap, ◌∙◌, subst, arith}
use Rattle.std.specs.Option.{unwrap_or}
use Rattle.field.specs.Field.{Ops}
use Rattle.algebra.specs.Vectors.{weight}
use Rattle.solve.specs.Answer.{code_at, Entries}
use Rattle.scheme.specs.Farm.{Table}
use Rattle.scheme.specs.Askings.{first_sums}
use Rattle.scheme.specs.Pairs.{Pair}
use Rattle.scheme.specs.Differences.{Solution, Unsolved}
use Rattle.scheme.specs.Three.{Taken}
use Rattle.pairs.specs.declared.difference.Difference.{Difference}
use Rattle.pairs.specs.declared.pair_gaps.PairGaps.{PairGaps}
use Rattle.pairs.specs.Held.{held, answered_weight, unsolved_in, weight_in, solved_code, solved_weight}
use Rattle.pairs.specs.Solving.{PairsSolved}
use Rattle.pairs.proofs.Standing.{forward}
use Rattle.three.specs.declared.taking.TakenPair.{TakenPair}
use Rattle.three.specs.Pairs.{LightestPair, Lightest}

module _ (f : Ops) (N bound : ℕ) (T : Table) (g : PairGaps) (solved : PairsSolved f 3 N (first_sums 3 bound) T g) where
  abbrev Sol : ℕ → ℕ → (ℕ → ℕ) → Type 0
  Sol = Solution f N (first_sums 3 bound) T

  -- a solution has the weight that is held
  weighs : (u v : ℕ) (d : ℕ → ℕ) → Pair 3 u v → Sol u v d → (w : ℕ) × (answered_weight g u v ≡ Some w) × (weight N d ≡ w)
  weighs u v d p x = by (answered_weight g u v) refl
    where
      by : (o : Option ℕ) → answered_weight g u v ≡ o → (w : ℕ) × (answered_weight g u v ≡ Some w) × (weight N d ≡ w)
      by None is = absurd ((solved.answers u v p).0 (ap is_none is) d x)
      by (Some w) is = (w, is, solved.weights u v p (ap is_none is) d x ∙ ap (λ o. unwrap_or o 0) is)

  pub none_solved : Lightest g None → (u v : ℕ) → Pair 3 u v → Unsolved f N (first_sums 3 bound) T u v
  none_solved none u v p d x = let w = weighs u v d p x in none u v w.0 p w.1

  module _ (x : TakenPair) (l : LightestPair g x) where
    pub some_weight : unsolved_in g x.first x.second ≡ false
    some_weight = ap is_none l.solved

    module _ (y : Difference) (is : held g x.first x.second ≡ Some y) where
      solution : Sol x.first x.second (code_at y.list)
      solution =
          subst (Sol x.first x.second) (forward f g x.first x.second l.pair.1 ∙ ap solved_code is) ((solved.answers x.first x.second l.pair).1 some_weight)

      own : weight N (code_at y.list) ≡ x.weight
      own = solved.weights x.first x.second l.pair some_weight (code_at y.list) solution ∙ ap (λ o. unwrap_or o 0) l.solved

      pub taken : Taken f N bound T x.first x.second (code_at y.list)
      taken = record {
        pair = l.pair;
        solved = solution;
        least = λ u v d p z. let w = weighs u v d p z in omega (arith, own, w.2, l.least u v w.0 p w.1);
        first = λ u v d p z less. let w = weighs u v d p z in omega (arith, own, w.2, l.foremost u v w.0 p w.1 less);
      }

      pub is_listed : Entries N (weight_in g x.first x.second) y.list
      is_listed = solved.listed x.first x.second y l.pair some_weight is

    -- some difference is held of it
    pub is_held : (y : Difference) × (held g x.first x.second ≡ Some y)
    is_held = by (held g x.first x.second) refl l.solved
      where
        by : (o : Option Difference) → held g x.first x.second ≡ o → solved_weight o ≡ Some x.weight → (y : Difference) × (held g x.first x.second ≡ Some y)
        by (Some y) is e = (y, is)
        by None is e = absurd cc
