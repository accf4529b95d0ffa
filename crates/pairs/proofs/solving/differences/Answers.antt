use Rattle.std.proofs.Common.{◌≡◌, ◌+◌, ◌≢◌, get_or, set, ◌∙◌, arith, rules, below_more, get_or-set_same, get_or-set_other}
use Rattle.scheme.specs.Differences.{gap}
use Rattle.tally.specs.Rows.{sum_in}
use Rattle.pairs.proofs.solving.differences.Goals as goal

pub loop-k-preserved : goal.loop-k-preserved
loop-k-preserved g c =
    let f = g.F.Field.ops in
    let T = sum_in c.args.rows.now.words.now c.args.rows.now.pages in
    let k = c.loop-k.k in
    let v = c.sub.result in
    below_more (λ j. get_or (set c.loop-k.value-items k v) j 0 ≡ gap f T c.args.s c.args.t (j + 1)) k
    (λ j h. get_or-set_other c.loop-k.value-items k j v 0 (let ne : j ≢ k = omega arith in ne) ∙ c.loop-k.invariant j h)
    (get_or-set_same c.loop-k.value-items k v 0 (search rules) ∙ search rules)
