use Rattle.std.proofs.Common.{subst}
use Rattle.calls.specs.Listing.{Listing}
use Rattle.calls.specs.Runs.{lists}
use Rattle.calls.proofs.check.Check.list.Goals as goal

pub returns-clause-step : goal.returns-clause-step
returns-clause-step g c =
    lists (subst (λ found. Listing c.args.self.now.book.terms found c.args.station c.args.tally.now c.args.out.now c.list_pages.result c.list_pages.new.out) c.found.ensures c.list_pages.ensures)
