use Rattle.std.proofs.Common.{rules}
use borrow.Author.Tests.{tests}
use Rattle.pairs.specs.Suspects.{SuspectIn}
use Rattle.pairs.specs.Searching.{Apart}
use Rattle.pairs.proofs.Told.{told}
use Rattle.pairs.proofs.pair_gaps.PairGaps.first_apart.Goals as goal

pub returns : goal.returns
returns c =
    let M = c.args.self.now.stations in
    let A = Apart M (SuspectIn M c.args.self.now) c.args.x c.args.y in
    told M A (λ u v. ¬ A u v) (λ u v p q. search (rules, tests)) (λ u v p q. search (rules, tests)) c.first_pair.result c.first_pair.ensures
