use Rattle.std.proofs.Common.{rules}
use Rattle.algebra.proofs.Ranges.{all_from}
use Rattle.four.specs.Adding.{Adds}
use Rattle.four.proofs.AllAdding.{pages_told}
use Rattle.four.proofs.others.Others.pages_add.Goals as goal

pub returns : goal.returns
returns g c =
    let f = g.F.Field.ops in
    let M = c.args.self.now.farm.now.stations in
    let N = c.args.self.now.farm.now.pages in
    let E = g.G.RowGaps.gaps c.args.self.now.gaps.now in
    let i = c.args.self.now.aside in
    pages_told f N E c.args.s c.args.t c.args.u c.all.result (all_from _ _ 1 N (λ n. Adds f E c.args.s c.args.t c.args.u n) (λ n. ¬ Adds f E c.args.s c.args.t c.args.u n) c.new.ensures.start c.new.ensures.end c.new.ensures.exhausted
    c.all.result c.all.ensures.ran (λ x q p. search rules) (λ x q p. search rules))
