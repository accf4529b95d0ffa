use Rattle.std.proofs.Common.{ℕ, ◌+◌}
use Rattle.solve.specs.Answer.{code_at, Entries}
use Rattle.tally.specs.Rows.{signature_in, RowPut}
use Rattle.pairs.proofs.Gone.{Passed}
use Rattle.pairs.proofs.subtracting.put_minus.Given as goal

abbrev pub invariant-loop-before : goal.invariant-loop-before
invariant-loop-before g l =
    ((m : ℕ) → Entries l.farm.pages m l.list → Passed m l.list l.next (l.before + 1))
    × RowPut l.farm.pages l.before l.to l.initial.tally l.tally (λ n. g.F.Field.ops.minus (signature_in l.initial.tally l.farm.pages l.from n) (code_at l.list n))
