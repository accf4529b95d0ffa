use Rattle.std.proofs.Common.{◌≡◌, ℕ, suc, ◌<◌, length, get_or}
use Rattle.field.specs.Sums.{entry, power_sum}
use Rattle.station.specs.Kinds.{card_row}
use Rattle.host.proofs.signing.write_sums.Given as goal

abbrev pub invariant-loop-k : goal.invariant-loop-k
invariant-loop-k g l =
    (i : ℕ) → i < l.k → get_or l.sums i 0 ≡ power_sum g.F.Field.ops (length (card_row g.F.Field.ops l.card.words.now)) (entry (card_row g.F.Field.ops l.card.words.now)) (suc i)
