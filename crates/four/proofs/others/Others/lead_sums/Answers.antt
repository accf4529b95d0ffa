use Rattle.std.proofs.Common.{◌≡◌, ℕ, ◌+◌, ◌≢◌, List, length, get_or, set, ap, ◌∙◌, ap₂, arith, rules, below_more, get_or-set_same, get_or-set_other}
use Rattle.scheme.specs.Four.{beside, lead_of_others, sum_from_leads}
use Rattle.tally.specs.Rows.{sum_in}
use Rattle.four.proofs.Leads.{front_sum}
use Rattle.four.proofs.others.Others.lead_sums.Goals as goal

pub loop-k-preserved : goal.loop-k-preserved
loop-k-preserved g c =
    let f = g.F.Field.ops in
    let E = g.G.RowGaps.gaps c.args.self.now.gaps.now in
    let farm = c.args.self.now.farm.now in
    let i = c.args.self.now.aside in
    let T = sum_in c.args.tally.now farm.pages in
    let leads : ℕ → ℕ = λ n. E (beside i) (lead_of_others farm.stations E i n) n in
    let k = c.loop-k.k in
    let row = c.lead_gaps-row.result in
    let full : length row ≡ 1920 = search rules in
    let rows : (s : ℕ) → sum_in c.rows-rows.result.words.now c.rows-rows.result.pages s (k + 1) ≡ T s (k + 1) = λ s.
    ap (λ N. sum_in c.rows-rows.result.words.now N s (k + 1)) c.rows-rows.ensures.2 ∙ ap (λ (ws : List ℕ). sum_in ws farm.pages s (k + 1)) c.rows-rows.ensures.0 in
    let is : c.add.result ≡ sum_from_leads f farm.stations farm.pages farm.bound T E i (k + 1) =
    c.add.ensures
    ∙ ap₂ f.plus
    (c.sub-gap.ensures ∙ ap₂ f.minus (c.sum.ensures ∙ rows i) (c.sum-in-loop-k.ensures ∙ rows c.beside-beside.result ∙ ap (λ b. T b (k + 1)) c.beside-beside.ensures))
    (c.row_sum.ensures ∙ front_sum f row farm.pages leads (k + 1) (omega (arith, full, farm.pages_in)) c.lead_gaps-row.ensures) in
    below_more (λ j. get_or (set c.loop-k.value-items k c.add.result) j 0 ≡ sum_from_leads f farm.stations farm.pages farm.bound T E i (j + 1)) k
    (λ j h. get_or-set_other c.loop-k.value-items k j c.add.result 0 (let ne : j ≢ k = omega arith in ne) ∙ c.loop-k.invariant j h)
    (get_or-set_same c.loop-k.value-items k c.add.result 0 (search rules) ∙ is)
