use Rattle.std.proofs.Common.{ℕ, rules}
use Rattle.algebra.proofs.Ranges.{first_from}
use Rattle.calls.specs.Standings.{SlipOut}
use Rattle.calls.specs.Slips.{standing}
use Rattle.calls.proofs.LowestStations.{lowest_station}
use Rattle.calls.proofs.book.Book.lowest_out.Goals as goal

pub returns : goal.returns
returns c =
    let M = c.args.self.now.terms.farm.stations in
    let P = λ (s : ℕ). SlipOut (standing c.args.self.now s) in
    lowest_station M P c.find.result (first_from _ _ 2 M P (λ s. ¬ P s) c.new.ensures.start c.new.ensures.end c.new.ensures.exhausted
    c.find.result c.find.ensures.ran (λ x q p. search rules) (λ x q p. search rules))
