use Rattle.std.proofs.Common.{◌≡◌, ◌+◌, ◌-◌, ◌*◌, ◌≤◌, length}
use Rattle.page.specs.Pages.{page_signature}
use Rattle.cards.specs.Card.{page_lines}
use Rattle.cards.proofs.text.put_pages.Given as goal

abbrev pub invariant-loop-page : goal.invariant-loop-page
invariant-loop-page g l = record {
  position : l.page ≤ l.pages + 1;
  lines : l.text ≡ page_lines (page_signature g.F.Field.ops l.page_length l.job) (l.page - 1);
  short : length l.text ≤ 15 * (l.page - 1);
}
