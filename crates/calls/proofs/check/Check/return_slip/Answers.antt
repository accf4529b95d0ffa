use Rattle.calls.specs.Runs.{returns}
use Rattle.calls.proofs.check.Check.return_slip.Goals as goal

pub returns-clause-step : goal.returns-clause-step
returns-clause-step g c = returns c.end.ensures
