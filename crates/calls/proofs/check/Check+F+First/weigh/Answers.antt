use Rattle.std.proofs.Common.{refl}
use Rattle.calls.specs.Runs.{weigh_closes, weigh_asks, weigh_refused}
use Rattle.calls.proofs.check.Check+F+First.weigh.Goals as goal

pub returns-in-Err-clause-step : goal.returns-in-Err-clause-step
returns-in-Err-clause-step g c = weigh_refused c.in-Err.refusal (c.in-Err.ensures, refl, refl)

pub returns-in-Closes-clause-step : goal.returns-in-Closes-clause-step
returns-in-Closes-clause-step g c =
    weigh_closes (record { accepted = c.in_default.ensures; finds = c.in-Closes.ensures; book = refl })

pub returns-in-Asks-clause-step : goal.returns-in-Asks-clause-step
returns-in-Asks-clause-step g c =
    let ends = c.in-Asks.ensures in
    weigh_asks (record { accepted = c.in_default.ensures; ends = ends.0; again = c.ask_again.ensures; written = ends.1 })
