use Rattle.std.proofs.Common.{length}
use Rattle.commands.proofs.checks.OpenCheck.close.Given as goal

abbrev pub invariant-loop-slip : goal.invariant-loop-slip
invariant-loop-slip g l = Unit {0}

-- each turn returns a slip
abbrev pub decreases-loop-slip : goal.decreases-loop-slip
decreases-loop-slip g l = length l.slips.items
