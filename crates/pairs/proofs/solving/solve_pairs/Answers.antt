use Rattle.std.proofs.Common.{ℕ, ◌/◌, arith}
use Rattle.scheme.specs.Askings.{first_sums}
use Rattle.scheme.specs.Differences.{gap}
use Rattle.tally.specs.Rows.{sum_in}
use Rattle.pairs.specs.declared.difference.Difference.{Difference}
use Rattle.pairs.specs.Difference.{Answered}
use Rattle.pairs.proofs.RowSolved.{rows_more}
use Rattle.pairs.proofs.Standing.{pairs_solved}
use Rattle.pairs.proofs.solving.solve_pairs.Goals as goal

pub loop-t-preserved : goal.loop-t-preserved
loop-t-preserved g c =
    let f = g.F.Field.ops in
    let farm = c.args.farm.now in
    let sums = first_sums farm.stations farm.bound in
    let T = sum_in c.args.tally.now farm.pages in
    let P : ℕ → ℕ → Difference → Type 0 = λ s t x. Answered f farm.pages (sums / 2) sums (gap f T s t) x in (
      c.loop-t.invariant.0,
      rows_more farm.stations c.loop-t.t c.loop-t.gaps.pairs c.solve_below.new.pairs P (omega arith) c.loop-t.invariant.1 c.solve_below.ensures.solved c.solve_below.ensures.stay,
    )

pub returns-2 : goal.returns-2
returns-2 g c =
    let f = g.F.Field.ops in
    let farm = c.args.farm.now in
    let sums = first_sums farm.stations farm.bound in
    let T = sum_in c.args.tally.now farm.pages in
    let P : ℕ → ℕ → Difference → Type 0 = λ s t x. Answered f farm.pages (sums / 2) sums (gap f T s t) x in
    let all = rows_more farm.stations c.loop-t.t c.loop-t.gaps.pairs c.solve_below.new.pairs P (omega arith) c.loop-t.invariant.1 c.solve_below.ensures.solved c.solve_below.ensures.stay in
    let size = c.loop-t.invariant.0 in
    pairs_solved g.met.F.Field.lawful g.met.F.Field.spread farm.stations farm.pages sums T _ (omega (arith, c.requires)) size
    (λ s t d p. all s t d (p.0, p.1, omega (arith, p.2, size)) (omega (arith, p.2, size)))
