use Rattle.std.proofs.Common.{subst, ◌+◌, arith}
use Rattle.field.specs.Sums.{entry, power_sum}
use Rattle.tally.specs.Rows.{sum_place}
use Rattle.calls.specs.Entering.{Placed}
use Rattle.calls.proofs.RowsOpened.{rows_opened}
use Rattle.calls.proofs.entering.open_rows.Goals as goal

pub returns : goal.returns
returns g c =
    let t = c.args.terms.now in
    let row = g.S.Station.row c.args.own.now in
    rows_opened g.F.Field.ops row t.farm.stations t.farm.pages _ c.tally_size.result (omega (arith, t.farm.stations_in)) (omega (arith, t.farm.bound_in)) c.tally_size.ensures
    c.args.tally.now c.fill.new.self c.fill_signatures.new.tally c.fill_sums.new.tally c.requires.room
    (c.fill.ensures.after (λ y e. e)) c.fill_signatures.ensures
    (subst (λ J. Placed (sum_place t.farm.pages 1) (power_sum g.F.Field.ops t.farm.pages (entry row)) 1 (J + 1) c.fill_signatures.new.tally c.fill_sums.new.tally) c.all_sums.ensures c.fill_sums.ensures)
