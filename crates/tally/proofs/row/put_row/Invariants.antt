use Rattle.std.proofs.Common.{ℕ, ◌+◌, ◌-◌, ◌≤◌}
use Rattle.field.specs.Sums.{Tells}
use Rattle.tally.specs.Rows.{signature_in, RowPut}
use Rattle.tally.proofs.row.put_row.Given as goal

abbrev pub invariant-loop-page : goal.invariant-loop-page
invariant-loop-page g l =
    (l.page ≤ l.pages + 1)
    × ((e : ℕ → ℕ) → Tells (goal.G-post g l.gap) l.pages e
    → RowPut l.pages (l.page - 1) l.to l.initial.tally l.tally (λ n. g.F.Field.ops.minus (signature_in l.initial.tally l.pages l.from n) (e n)))
