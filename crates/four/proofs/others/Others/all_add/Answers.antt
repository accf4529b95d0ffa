use Rattle.std.proofs.Common.{◌≢◌, rules}
use Rattle.algebra.proofs.Ranges.{all_from}
use Rattle.four.specs.Adding.{SecondsAdd, SecondBreaks}
use Rattle.four.proofs.AllAdding.{stations_told}
use Rattle.four.proofs.others.Others.all_add.Goals as goal

pub returns : goal.returns
returns g c =
    let f = g.F.Field.ops in
    let M = c.args.self.now.farm.now.stations in
    let N = c.args.self.now.farm.now.pages in
    let E = g.G.RowGaps.gaps c.args.self.now.gaps.now in
    let i = c.args.self.now.aside in
    stations_told f M N E i c.all.result (all_from _ _ 1 M (λ s. s ≢ i → SecondsAdd f N E M i s) (λ s. (s ≢ i) × SecondBreaks f N E M i s) c.new.ensures.start c.new.ensures.end c.new.ensures.exhausted
    c.all.result c.all.ensures.ran (λ x q p. search rules) (λ x q p. search rules))
