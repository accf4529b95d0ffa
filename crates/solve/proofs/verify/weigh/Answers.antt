use Rattle.std.proofs.Common.{sym, ap, ◌∙◌, length, count_by, arith, rules}
use borrow.Author.Tests.{tests}
use Rattle.std.proofs.lemmas.List.{take_all}
use Rattle.std.proofs.lemmas.List.Sums.{length-filter}
use Rattle.std.proofs.lemmas.Iterator.{YieldsList-from_slice}
use Rattle.std.proofs.lemmas.Iterator.Consumers.{YieldsList-from_filter, count_from_yields_List}
use Rattle.solve.specs.Candidates.{candidates_of}
use Rattle.solve.proofs.Coding.{length_candidates}
use Rattle.solve.proofs.Weighing.{some, weight_counts}
use Rattle.solve.proofs.verify.weigh.Goals as goal

pub returns : goal.returns
returns c =
    let cs = c.args.coded.now in
    let long = length_candidates cs in
    count_from_yields_List c.filter.result c.count.result c.count.ensures.ran
    (YieldsList-from_filter _ some (YieldsList-from_slice cs (cc)) c.filter.ensures.closure (λ x r q k. search (rules, tests)))
    ∙ length-filter some cs ∙ sym (ap (count_by some) (take_all (length (candidates_of cs)) cs (omega (arith, long)))) ∙ weight_counts cs (length (candidates_of cs)) (omega (arith, long))
