use Rattle.std.proofs.Common.{rules, refl}
use borrow.Author.Tests.{tests}
use Rattle.scheme.specs.Pairs.{Disjoint}
use Rattle.pairs.specs.Suspects.{LighterIn}
use Rattle.pairs.proofs.Told.{some_pair}
use Rattle.pairs.proofs.Suspecting.{Counters, none_counters}
use Rattle.pairs.proofs.pair_gaps.PairGaps.all_lighter.Goals as goal

pub returns : goal.returns
returns c =
    let g = c.args.self.now in
    let w = c.args.weight in
    let s = c.args.s in
    let t = c.args.t in
    none_counters g.stations g w s t _
    (some_pair g.stations (Counters g.stations g w s t) (λ u v. Disjoint s t u v → LighterIn g w u v) (λ u v p q. search (rules, tests)) (λ u v p q. search (rules, tests))
    c.first_pair.result _ refl c.first_pair.ensures) c.is_none.result c.is_none.ensures
