use Rattle.std.proofs.Common.{rules}
use Rattle.calls.specs.Runs.{opened}
use Rattle.calls.proofs.EveryRun.{every_run, by_replies}
use Rattle.calls.proofs.check.Check+F+First.open.Goals as goal

pub returns-in_err-terms-clause-promise : goal.returns-in_err-terms-clause-promise
returns-in_err-terms-clause-promise g c = every_run

pub returns-then-tally_size-tally-clause-promise : goal.returns-then-tally_size-tally-clause-promise
returns-then-tally_size-tally-clause-promise g c = every_run

pub returns-clause-promise : goal.returns-clause-promise
returns-clause-promise g c = every_run

pub returns-in_err-terms-clause-replies : goal.returns-in_err-terms-clause-replies
returns-in_err-terms-clause-replies g c = by_replies

pub returns-then-tally_size-tally-clause-replies : goal.returns-then-tally_size-tally-clause-replies
returns-then-tally_size-tally-clause-replies g c = by_replies

pub returns-clause-replies : goal.returns-clause-replies
returns-clause-replies g c = by_replies

pub returns-clause-begins : goal.returns-clause-begins
returns-clause-begins g c =
    opened {number = c.args.number} {M = c.args.stations} {N = c.args.pages} {bound = c.args.bound} {t = c.args.tally.now} (search rules)
