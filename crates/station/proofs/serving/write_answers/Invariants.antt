use Rattle.std.proofs.Common.{◌≡◌, ℕ, ◌+◌, ◌<◌, get_or}
use Rattle.wire.specs.Words.{word}
use Rattle.station.specs.Serving.{answer}
use Rattle.station.proofs.serving.write_answers.Given as goal

abbrev pub invariant-loop-k : goal.invariant-loop-k
invariant-loop-k g l =
    (i : ℕ) → i < l.k → get_or l.values i 0 ≡ word 6 (answer g.F.Field.ops (g.S.Station.row l.station) l.request.asked (l.request.first + i))
