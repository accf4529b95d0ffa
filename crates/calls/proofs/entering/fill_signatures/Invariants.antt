use Rattle.std.proofs.Common.{◌+◌, ◌≤◌}
use Rattle.field.specs.Sums.{entry}
use Rattle.tally.specs.Rows.{signature_place}
use Rattle.calls.specs.Entering.{Placed}
use Rattle.calls.proofs.entering.fill_signatures.Given as goal

abbrev pub invariant-loop-page : goal.invariant-loop-page
invariant-loop-page g l =
    (l.page ≤ l.pages + 1) × Placed (signature_place l.pages 1) (entry (g.S.Station.row l.own)) 1 l.page l.initial.tally l.tally
