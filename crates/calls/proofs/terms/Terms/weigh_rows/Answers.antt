use Rattle.std.proofs.Common.{sym, ◌∙◌, arith}
use Rattle.std.proofs.lemmas.Bool.{false≢true}
use Rattle.calls.proofs.EndingsFound.{plain_found, weighing_asks, weighed_found}
use Rattle.calls.proofs.terms.Terms.weigh_rows.Goals as goal

pub returns-then-is_plain : goal.returns-then-is_plain
returns-then-is_plain g c =
    plain_found g.F.Field.ops c.args.self.now c.args.tally.now (c.is_plain.ensures.0 c.if-is_plain.true) c.close_on.result c.close_on.ensures

pub ending_of-requires : goal.ending_of-requires
ending_of-requires g c = λ k is.
    let asked =
    weighing_asks g.F.Field.ops c.args.self.now c.args.tally.now c.weigh_farm-outcome.new.tally g.met.F.Field.lawful g.met.F.Field.spread c.requires.pages.1
    c.weigh_farm-outcome.result c.weigh_farm-outcome.ensures k is
    in
    omega (arith, asked, c.args.self.now.farm.stations_in)

pub returns : goal.returns
returns g c =
    weighed_found g.F.Field.ops c.args.self.now c.args.tally.now c.weigh_farm-outcome.new.tally g.met.F.Field.lawful g.met.F.Field.spread c.requires.pages.1
    (λ plain. false≢true (sym c.if-is_plain.false ∙ c.is_plain.ensures.1 plain)) c.weigh_farm-outcome.result c.ending_of.result c.weigh_farm-outcome.ensures c.ending_of.ensures
