-- What the solved differences of all pairs of M stations say of the sums.
use Rattle.std.specs.Prelude.{◌≡◌, ℕ, false, Some, ◌↔◌}
use Rattle.solve.specs.Answer.{Entries}
use Rattle.pairs.specs.declared.difference.Difference.{Difference}
use Rattle.field.specs.Field.{Ops}
use Rattle.algebra.specs.Vectors.{weight}
use Rattle.scheme.specs.Farm.{Table}
use Rattle.scheme.specs.Pairs.{Pair}
use Rattle.scheme.specs.Differences.{Solution, Suspect, Differences}
use Rattle.scheme.specs.Theorem.{Answers}
use Rattle.pairs.specs.declared.pair_gaps.PairGaps.{PairGaps}
use Rattle.pairs.specs.Held.{held, unsolved_in, weight_in, gaps_in}
use Rattle.pairs.specs.Suspects.{SuspectIn}

-- every pair is answered, the weights are those of the solutions, and what is held lists them; the suspects by what is held are those by the sums
pub record PairsSolved (f : Ops) (M N h : ℕ) (T : Table) (g : PairGaps) : Type 0 where
  pub size : g.stations ≡ M
  pub answers : Answers f M N h T (unsolved_in g) (gaps_in f g)
  pub differences : Differences f M N h T (gaps_in f g)
  pub weights : (s t : ℕ) → Pair M s t → unsolved_in g s t ≡ false → (e : ℕ → ℕ) → Solution f N h T s t e → weight N e ≡ weight_in g s t
  pub listed : (s t : ℕ) (x : Difference) → Pair M s t → unsolved_in g s t ≡ false → held g s t ≡ Some x → Entries N (weight_in g s t) x.list
  pub suspects : (s t : ℕ) → Pair M s t → Suspect f M N h T s t ↔ SuspectIn M g s t
