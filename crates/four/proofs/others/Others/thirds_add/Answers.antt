use Rattle.std.proofs.Common.{◌+◌, ◌≢◌, rules}
use Rattle.algebra.proofs.Ranges.{all_from}
use Rattle.four.specs.Adding.{PagesAdd, PageBreaks}
use Rattle.four.proofs.AllAdding.{others_told}
use Rattle.four.proofs.others.Others.thirds_add.Goals as goal

pub returns : goal.returns
returns g c =
    let f = g.F.Field.ops in
    let M = c.args.self.now.farm.now.stations in
    let N = c.args.self.now.farm.now.pages in
    let E = g.G.RowGaps.gaps c.args.self.now.gaps.now in
    let i = c.args.self.now.aside in
    others_told M i c.args.t (PagesAdd f N E c.args.s c.args.t) (PageBreaks f N E c.args.s c.args.t) c.all.result (all_from _ _ (c.args.t + 1) M (λ u. u ≢ i → PagesAdd f N E c.args.s c.args.t u) (λ u. (u ≢ i) × PageBreaks f N E c.args.s c.args.t u) c.new.ensures.start c.new.ensures.end c.new.ensures.exhausted
    c.all.result c.all.ensures.ran (λ x q p. search rules) (λ x q p. search rules))
