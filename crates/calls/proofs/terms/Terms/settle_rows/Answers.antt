use Rattle.calls.proofs.EndingsFound.{settled_found}
use Rattle.calls.proofs.terms.Terms.settle_rows.Goals as goal

pub returns : goal.returns
returns g c =
    settled_found g.F.Field.ops c.args.self.now c.args.tally.now c.settle_farm-outcome.new.tally c.settle_farm-outcome.result c.in-Closes.verdict
    c.settle_farm-outcome.ensures c.in-Closes.ensures
