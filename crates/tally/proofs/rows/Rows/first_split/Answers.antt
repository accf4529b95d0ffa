use Rattle.std.proofs.Common.{rules}
use Rattle.scheme.specs.Farm.{Decided}
use Rattle.tally.specs.Rows.{signature_in}
use Rattle.algebra.proofs.Ranges.{first_from}
use Rattle.scheme.proofs.Ranges.{lowest_of}
use Rattle.tally.proofs.Halves.{undecided_none, decided_some}
use Rattle.tally.proofs.rows.Rows.first_split.Goals as goal

pub returns : goal.returns
returns c =
    let R = signature_in c.args.self.now.words.now c.args.self.now.pages in
    let P = Decided c.args.self.now.stations R in
    lowest_of c.args.self.now.pages P c.find.result (first_from _ _ 1 c.args.self.now.pages (λ n. ¬ P n) P c.new.ensures.start c.new.ensures.end c.new.ensures.exhausted
    c.find.result c.find.ensures.ran (λ x q p. search (rules, undecided_none)) (λ x q p. search (rules, decided_some)))
