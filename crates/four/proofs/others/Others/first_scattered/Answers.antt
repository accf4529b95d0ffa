use Rattle.std.proofs.Common.{rules}
use Rattle.scheme.specs.Four.{Scattered}
use Rattle.algebra.proofs.Ranges.{first_from}
use Rattle.four.proofs.others.Others.first_scattered.Goals as goal

pub returns : goal.returns
returns g c =
    let P = Scattered c.args.self.now.farm.now.stations (g.G.RowGaps.gaps c.args.self.now.gaps.now) c.args.self.now.aside in
    first_from _ _ 1 c.args.self.now.farm.now.pages P (λ n. ¬ P n) c.new.ensures.start c.new.ensures.end c.new.ensures.exhausted
    c.find.result c.find.ensures.ran (λ x q p. search rules) (λ x q p. search rules)
