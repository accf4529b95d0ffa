use Rattle.std.proofs.Common.{refl}
use Rattle.worked.proofs.limits.Goals as goal

pub returns : goal.returns
returns c = record {
  pages = refl;
  sums = refl;
  values = refl;
  page_length = refl;
  list = refl;
  card_room = refl;
  findings_room = refl;
}
