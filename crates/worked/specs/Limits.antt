-- The limits that definitions and contracts cite by their names, as numbers.
use Rattle.std.specs.Prelude.{◌≡◌, ◌^◌}
use Rattle.field.specs.declared.limits.TheConstants.{PAGE_LIMIT, SUM_LIMIT, VALUE_LIMIT}
use Rattle.page.specs.declared.cut.TheConstants.{PAGE_LENGTH_LIMIT}
use Rattle.solve.specs.declared.limits.TheConstants.{LIST_SIZE}
use Rattle.cards.specs.declared.text.TheConstants.{CARD_ROOM}
use Rattle.desk.specs.declared.room.TheConstants.{FINDINGS_ROOM}

pub record Limits : Type 0 where
  -- pages of a job, sums that are told, values of a word on the link, bytes of a page, places of a solution's list
  pub pages : PAGE_LIMIT ≡ 1920
  pub sums : SUM_LIMIT ≡ 128
  pub values : VALUE_LIMIT ≡ 2 ^ 28
  pub page_length : PAGE_LENGTH_LIMIT ≡ 4096
  pub list : LIST_SIZE ≡ 129
  -- bytes that are room enough for every card, and for all findings on a farm
  pub card_room : CARD_ROOM ≡ 28811
  pub findings_room : FINDINGS_ROOM ≡ 12266
