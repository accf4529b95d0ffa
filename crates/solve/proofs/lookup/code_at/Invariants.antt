use Rattle.std.proofs.Common.{◌≡◌, drop}
use Rattle.solve.specs.Answer.{code_at}
use Rattle.solve.proofs.lookup.code_at.Given as goal

abbrev pub invariant-loop-entry : goal.invariant-loop-entry
invariant-loop-entry l = code_at l.list l.page ≡ code_at (drop l.entry-index l.list) l.page
