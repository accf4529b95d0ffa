use Rattle.std.proofs.Common.{ℕ, rules, nat_eq, ◌∙◌}
use Rattle.std.proofs.lemmas.Iterator.Consumers.{YieldsList-from_filter, YieldsList-at, count_from_yields_List}
use Rattle.algebra.proofs.Ranges.{yields_1_to}
use Rattle.scheme.proofs.Ranges.{passed}
use Rattle.tally.specs.Rows.{signature_in}
use Rattle.tally.proofs.rows.Rows.holders.Goals as goal

pub returns : goal.returns
returns c =
    let M = c.args.self.now.stations in
    let test = λ (s : ℕ). nat_eq (signature_in c.args.self.now.words.now c.args.self.now.pages s c.args.page) c.args.signature in
    count_from_yields_List c.filter.result c.count.result c.count.ensures.ran
    (YieldsList-from_filter {s = c.filter.result} _ test (YieldsList-at c.filter.ensures.source (yields_1_to {s = c.new.result} M c.new.ensures.start c.new.ensures.end c.new.ensures.exhausted)) c.filter.ensures.closure (λ x b q p. search rules))
    ∙ passed test M
