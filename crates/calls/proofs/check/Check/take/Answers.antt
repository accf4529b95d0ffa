use Rattle.calls.specs.Runs.{takes}
use Rattle.calls.proofs.check.Check.take.Goals as goal

pub returns-clause-step : goal.returns-clause-step
returns-clause-step g c = takes (g.P.Asking.only c.args.self.now.phase) (g.met.P.Asking.asks c.args.self.now.phase) c.take_in.ensures
