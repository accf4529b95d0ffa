use Rattle.std.proofs.Common.{ℕ, ◌/◌, List, subst, ◌∙◌, arith, length-set}
use Rattle.scheme.specs.Askings.{first_sums}
use Rattle.scheme.specs.Differences.{gap}
use Rattle.tally.specs.Rows.{sum_in}
use Rattle.pairs.specs.declared.difference.Difference.{Difference}
use Rattle.pairs.specs.Difference.{Answered}
use Rattle.pairs.proofs.RowSolved.{solved_more, rest_stays}
use Rattle.pairs.proofs.solving.solve_below.Goals as goal

pub loop-s-preserved : goal.loop-s-preserved
loop-s-preserved g c =
    let f = g.F.Field.ops in
    let farm = c.args.farm.now in
    let sums = first_sums farm.stations farm.bound in
    let T = sum_in c.args.tally.now farm.pages in
    let s = c.loop-s.s in
    let t = c.args.t in
    let rows = c.rows-rows.ensures in
    let P : ℕ → Difference → Type 0 = λ a x. Answered f farm.pages (sums / 2) sums (gap f T a t) x in
    let by_sums = subst (λ (k : ℕ). Answered f c.rows-rows.result.pages (k / 2) k (gap f (sum_in c.rows-rows.result.words.now c.rows-rows.result.pages) s t) c.solve_pair.new.difference)
    c.first_sums-sums.ensures c.solve_pair.ensures in
    let by_pages = subst (λ (N : ℕ). Answered f N (sums / 2) sums (gap f (sum_in c.rows-rows.result.words.now N) s t) c.solve_pair.new.difference) rows.2 by_sums in
    let here : P s c.solve_pair.new.difference = subst (λ (xs : List ℕ). Answered f farm.pages (sums / 2) sums (gap f (sum_in xs farm.pages) s t) c.solve_pair.new.difference) rows.0 by_pages in
    let inv = c.loop-s.invariant in (
      length-set c.loop-s.pairs c.pair_place.result _ ∙ inv.0,
      solved_more s t c.pair_place.result c.loop-s.pairs _ c.pair_place.ensures P (omega arith) (omega arith) c.requires.few inv.0 inv.1 here,
      rest_stays s t c.pair_place.result c.loop-s.pairs _ c.pair_place.ensures c.args.pairs.now (omega arith) inv.2,
    )
