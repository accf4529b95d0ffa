use Rattle.std.proofs.Common.{◌≡◌, ◌+◌, ◌*◌, ◌++◌, ◌≤◌, length, take}
use Rattle.desk.specs.Lines.{copy_lines}
use Rattle.desk.proofs.report.put_pages.Given as goal

abbrev pub invariant-loop-page : goal.invariant-loop-page
invariant-loop-page l = record {
  lines : l.text ≡ l.fn.text ++ copy_lines l.station (take l.page-index l.pages);
  short : length l.text ≤ length l.fn.text + 6 * l.page-index;
}
