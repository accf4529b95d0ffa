use Rattle.std.proofs.Common.{rules, length, ap, ◌∙◌}
use Rattle.std.proofs.lemmas.Iterator.Consumers.{YieldsList-from_filter, YieldsList-at, count_from_yields_List}
use Rattle.algebra.proofs.Ranges.{yields_1_to}
use Rattle.tally.specs.Rows.{signature_in}
use Rattle.tally.proofs.BadPages.{is_bad, bad_filtered, bad_answered}
use Rattle.tally.proofs.listing.count_bad.Goals as goal

pub returns : goal.returns
returns c =
    let M = c.args.rows.now.stations in
    let R = signature_in c.args.rows.now.words.now c.args.rows.now.pages in
    let s = c.args.station in
    count_from_yields_List c.filter.result c.count.result c.count.ensures.ran
    (YieldsList-from_filter {s = c.filter.result} _ (is_bad M R s) (YieldsList-at c.filter.ensures.source (yields_1_to {s = c.new.result} c.args.pages c.new.ensures.start c.new.ensures.end c.new.ensures.exhausted)) c.filter.ensures.closure (λ x b q p. search (rules, bad_answered)))
    ∙ ap length (bad_filtered M R s c.args.pages)
