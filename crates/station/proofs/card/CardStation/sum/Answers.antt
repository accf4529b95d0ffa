use Rattle.std.proofs.Common.{length, ◌∙◌, rules}
use Rattle.field.proofs.Laws.{total_code}
use Rattle.station.proofs.Rows.{card_sum}
use Rattle.station.proofs.card.CardStation.sum.Goals as goal

pub returns : goal.returns
returns g c =
    let l = g.met.F.Field.lawful in
    let words = c.args.self.now.words.now in
    (search rules, c.row_sum.ensures ∙ card_sum l words c.args.j, rw c.row_sum.ensures (total_code l (length words) _))
