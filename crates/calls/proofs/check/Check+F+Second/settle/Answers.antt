use Rattle.std.proofs.Common.{refl}
use Rattle.calls.specs.Runs.{settle_closes, settle_refused}
use Rattle.calls.proofs.check.Check+F+Second.settle.Goals as goal

pub returns-in-Err-clause-step : goal.returns-in-Err-clause-step
returns-in-Err-clause-step g c = settle_refused c.in-Err.refusal (c.in-Err.ensures, refl, refl)

pub returns-clause-step : goal.returns-clause-step
returns-clause-step g c =
    settle_closes (record { accepted = c.in_default.ensures; finds = c.settle_rows-verdict.ensures; book = refl })
