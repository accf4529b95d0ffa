use Rattle.std.proofs.Common.{subst}
use Rattle.calls.specs.Slips.{Slips}
use Rattle.calls.specs.Runs.{slips}
use Rattle.calls.proofs.check.Check.slip.Goals as goal

pub returns-clause-step : goal.returns-clause-step
returns-clause-step g c =
    slips (g.P.Asking.only c.args.self.now.phase) (g.met.P.Asking.asks c.args.self.now.phase)
    (subst (λ only. Slips c.args.self.now.book only c.args.station c.args.request.now c.hand_out.result c.hand_out.new.self c.hand_out.new.words) c.only.ensures c.hand_out.ensures)
