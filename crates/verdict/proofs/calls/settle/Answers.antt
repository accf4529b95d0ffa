use Rattle.std.proofs.Common.{ℕ, subst}
use Rattle.verdict.specs.Judging.{Settled}
use Rattle.verdict.proofs.calls.settle.Goals as goal

pub returns : goal.returns
returns g c =
    let f = g.F.Field.ops in
    let h = c.in_ok-farm.ensures in
    let before = c.args.tally.now in
    let after = c.settle_farm.new.tally in
    let o = c.settle_farm.result in (
      h.0,
      subst (λ (M : ℕ). Settled f M c.args.pages c.args.bound before after o) h.1
          (subst (λ (N : ℕ). Settled f c.in_ok-farm.farm.stations N c.args.bound before after o) h.2
          (subst (λ (b : ℕ). Settled f c.in_ok-farm.farm.stations c.in_ok-farm.farm.pages b before after o) h.3 c.settle_farm.ensures)),
    )
