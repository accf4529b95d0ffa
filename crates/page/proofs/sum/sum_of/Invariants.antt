use Rattle.std.proofs.Common.{◌≡◌, ℕ, ◌+◌, ◌-◌, ◌*◌, ◌≤◌}
use Rattle.field.specs.Field.{power}
use Rattle.field.specs.Sums.{power_sum, Tells}
use Rattle.page.proofs.sum.sum_of.Given as goal

abbrev pub invariant-loop-page : goal.invariant-loop-page
invariant-loop-page g l =
    let f = g.F.Field.ops in
    (l.page ≤ l.pages + 1)
    × (l.weight ≡ power f f.alpha (l.j * l.page))
    × ((e : ℕ → ℕ) → Tells (goal.S-post g l.signature) l.pages e → l.total ≡ power_sum f (l.page - 1) e l.j)
