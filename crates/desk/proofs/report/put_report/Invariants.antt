use Rattle.std.proofs.Common.{◌+◌, ◌-◌, ◌*◌, ◌≤◌, List, length}
use Rattle.calls.specs.Runs.{Call}
use Rattle.desk.specs.Listings.{Listings}
use Rattle.desk.proofs.report.put_report.Given as goal

abbrev pub invariant-loop-station : goal.invariant-loop-station
invariant-loop-station l = record {
  position : l.station ≤ l.stations + 1;
  says : (lists : List Call) × Listings l.check.book.terms l.tally (l.station - 1) lists l.text;
  short : length l.text ≤ 1530 * (l.station - 1);
}
