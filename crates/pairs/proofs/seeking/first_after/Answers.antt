use Rattle.std.proofs.Common.{rules}
use borrow.Author.Tests.{tests}
use Rattle.algebra.proofs.Ranges.{first_from}
use Rattle.pairs.proofs.Told.{after}
use Rattle.pairs.proofs.seeking.first_after.Goals as goal

pub returns : goal.returns
returns g c =
    after c.args.stations c.args.s _ _ c.find.result
    (first_from _ _ 1 c.args.stations _ _ c.new.ensures.start c.new.ensures.end c.new.ensures.exhausted c.find.result c.find.ensures.ran
    (λ x q p. search (rules, tests)) (λ x q p. search (rules, tests)))
