use Rattle.std.proofs.Common.{ℕ, subst}
use Rattle.verdict.specs.Judging.{Weighed}
use Rattle.verdict.proofs.calls.weigh.Goals as goal

pub returns : goal.returns
returns g c =
    let f = g.F.Field.ops in
    let h = c.in_ok-farm.ensures in
    let before = c.args.tally.now in
    let after = c.weigh_farm.new.tally in
    let o = c.weigh_farm.result in (
      h.0,
      subst (λ (M : ℕ). Weighed f M c.args.pages c.args.bound before after o) h.1
          (subst (λ (N : ℕ). Weighed f c.in_ok-farm.farm.stations N c.args.bound before after o) h.2
          (subst (λ (b : ℕ). Weighed f c.in_ok-farm.farm.stations c.in_ok-farm.farm.pages b before after o) h.3 c.weigh_farm.ensures)),
    )
