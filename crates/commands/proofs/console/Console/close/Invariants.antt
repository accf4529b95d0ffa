use Rattle.std.proofs.Common.{length}
use Rattle.commands.proofs.console.Console.close.Given as goal

abbrev pub invariant-loop-check : goal.invariant-loop-check
invariant-loop-check l = Unit {0}

-- each turn closes a check
abbrev pub decreases-loop-check : goal.decreases-loop-check
decreases-loop-check l = length l.checks.items
