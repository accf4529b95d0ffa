use Rattle.std.proofs.Common.{◌+◌, ◌-◌, get_or}
use Rattle.wire.specs.Words.{value_of}
use Rattle.calls.specs.Entering.{Placed, place_of}
use Rattle.calls.proofs.entering.enter_values.Given as goal

abbrev pub invariant-loop-k : goal.invariant-loop-k
invariant-loop-k l =
    Placed (place_of l.request.asked l.pages l.request.station) (λ index. value_of (get_or l.values (index - l.request.first) 0)) l.request.first
    (l.request.first + l.k) l.initial.tally l.tally
