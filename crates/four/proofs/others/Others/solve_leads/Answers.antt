use Rattle.std.proofs.Common.{◌≡◌, ℕ, ◌+◌, ◌-◌, ◌<◌, get_or, ap, sym, ◌∙◌, subst, arith}
use Rattle.algebra.specs.Vectors.{Page}
use Rattle.field.specs.Sums.{entry}
use Rattle.solve.specs.Solution.{Enough}
use Rattle.scheme.specs.Askings.{all_sums}
use Rattle.scheme.specs.Four.{sum_from_leads}
use Rattle.tally.specs.Rows.{sum_in}
use Rattle.pairs.specs.Difference.{AnsweredBy}
use Rattle.four.proofs.Leads.{enough, same_answer}
use Rattle.four.proofs.others.Others.solve_leads.Goals as goal

pub solve_sums-requires-clause-enough : goal.solve_sums-requires-clause-enough
solve_sums-requires-clause-enough g c =
    let farm = c.args.self.now.farm.now in
    subst (Enough farm.pages farm.bound) (sym c.all_sums.ensures) (enough farm.pages farm.bound farm.bound_in.1)

pub solve_sums-requires-clause-codes : goal.solve_sums-requires-clause-codes
solve_sums-requires-clause-codes g c k lt =
    let f = g.F.Field.ops in
    let farm = c.args.self.now.farm.now in
    let s = sum_from_leads f farm.stations farm.pages farm.bound (sum_in c.args.tally.now farm.pages) (g.G.RowGaps.gaps c.args.self.now.gaps.now) c.args.self.now.aside in
    let is : get_or c.lead_sums-values.result k 0 ≡ s (k + 1) = c.lead_sums-values.ensures k (omega (arith, c.all_sums.ensures)) in
    subst (λ (v : ℕ). v < f.size) (sym is) (g.met.F.Field.lawful.plus_code _ _)

pub returns : goal.returns
returns g c =
    let f = g.F.Field.ops in
    let farm = c.args.self.now.farm.now in
    let values = c.lead_sums-values.result in
    let s = sum_from_leads f farm.stations farm.pages farm.bound (sum_in c.args.tally.now farm.pages) (g.G.RowGaps.gaps c.args.self.now.gaps.now) c.args.self.now.aside in
    let d = c.solve_sums.new.difference in
    let J = all_sums farm.pages farm.bound in
    let same : (j : ℕ) → Page J j → entry values j ≡ s j = λ j p. c.lead_sums-values.ensures (j - 1) (omega arith) ∙ ap s (let e : j - 1 + 1 ≡ j = omega arith in e) in
    same_answer f farm.pages farm.bound J (entry values) s same d.weight d.list
    (subst (λ (J : ℕ). AnsweredBy f farm.pages farm.bound J (entry values) d.weight d.list) c.all_sums.ensures c.solve_sums.ensures)
