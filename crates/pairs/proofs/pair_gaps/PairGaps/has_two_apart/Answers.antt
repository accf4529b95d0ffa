use Rattle.std.proofs.Common.{rules}
use borrow.Author.Tests.{tests}
use Rattle.pairs.specs.Suspects.{SuspectIn}
use Rattle.pairs.proofs.Crossing.{Crossed, crossed, uncrossed, two_apart}
use Rattle.pairs.proofs.Told.{some_pair}
use Rattle.pairs.proofs.pair_gaps.PairGaps.has_two_apart.Goals as goal

pub returns : goal.returns
returns c =
    let M = c.args.self.now.stations in
    let Ω = SuspectIn M c.args.self.now in
    two_apart M Ω c.is_some.result
    (some_pair M (Crossed M Ω) (λ s t. ¬ Crossed M Ω s t) (λ s t p q. search (rules, tests, crossed)) (λ s t p q. search (rules, tests, uncrossed))
    c.first_pair.result c.is_some.result c.is_some.ensures c.first_pair.ensures)
