use Rattle.tally.specs.Rows.{signature_in}
use Rattle.tally.proofs.Halves.{bad_unless}
use Rattle.tally.proofs.rows.Rows.is_bad.Goals as goal

pub returns-in-Some : goal.returns-in-Some
returns-in-Some c =
    bad_unless c.args.self.now.stations (signature_in c.args.self.now.words.now c.args.self.now.pages) c.args.station c.args.page c.in-Some.signature c.signature.result
    c.in-Some.ensures c.signature.ensures
