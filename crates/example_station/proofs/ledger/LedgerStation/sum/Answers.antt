-- The answer is sum j of the words. By card_sum it is sum j of the row, and by total_code a code; the rules say what is refused.
use Rattle.std.proofs.Common.{length, rules}
use Rattle.field.proofs.Laws.{total_code}
use Rattle.station.proofs.Rows.{card_sum}
use Rattle.example_station.proofs.ledger.LedgerStation.sum.Goals as goal

pub returns : goal.returns
returns g c =
    let l = g.met.F.Field.lawful in
    let words = c.args.self.now.words.items in
    (search rules, cc (c.row_sum.ensures, c.as_slice.ensures.value, card_sum l words c.args.j), rw c.row_sum.ensures (total_code l (length c.as_slice.result.now) _))
