use Rattle.std.proofs.Common.{rules, cond, sym, ap, ◌∙◌, ne_eqb}
use Rattle.std.proofs.lemmas.Iterator.Consumers.{YieldsList-from_filter, YieldsList-at, count_from_yields_List}
use Rattle.algebra.proofs.Ranges.{yields_1_to}
use Rattle.scheme.specs.Farm.{count, agree}
use Rattle.scheme.specs.Four.{except}
use Rattle.four.specs.Groups.{agreeing}
use Rattle.four.proofs.Agreeing.{agreeing_count}
use Rattle.four.proofs.others.Others.group_size.Goals as goal

pub returns : goal.returns
returns g c =
    let M = c.args.self.now.farm.now.stations in
    let E = g.G.RowGaps.gaps c.args.self.now.gaps.now in
    let i = c.args.self.now.aside in
    let s = c.args.station in
    count_from_yields_List c.filter.result c.count.result c.count.ensures.ran
    (YieldsList-from_filter {s = c.filter.result} _ (agreeing E i c.args.page s) (YieldsList-at c.filter.ensures.source (yields_1_to {s = c.new.result} M c.new.ensures.start c.new.ensures.end c.new.ensures.exhausted)) c.filter.ensures.closure (λ x b q p. search rules))
    ∙ agreeing_count E i c.args.page s M
    ∙ sym (ap (λ b. cond b 0 (count M (except i (λ t. agree (E t s c.args.page) 0)))) (ne_eqb s i (search rules)))
