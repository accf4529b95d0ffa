use Rattle.std.proofs.Common.{suc, length, arith}
use Rattle.field.specs.Sums.{entry, power_sum}
use Rattle.station.specs.Kinds.{card_row}
use Rattle.host.proofs.Written.{written}
use Rattle.host.proofs.signing.write_sums.Goals as goal

pub returns : goal.returns
returns g c =
    let row = card_row g.F.Field.ops c.args.card.now.words.now in
    written (λ k. power_sum g.F.Field.ops (length row) (entry row) (suc k)) (length c.args.sums.now) c.loop-k.sums (omega arith) (λ i h. c.loop-k.invariant i (omega arith))
