use Rattle.std.proofs.Common.{◌≡◌, ◌+◌, ◌-◌, subst, arith, rules}
use Rattle.four.specs.Filling.{RowsPut}
use Rattle.four.proofs.RowsWritten.{due, rows_more, rows_filled}
use Rattle.four.proofs.filling.fill_rows.Goals as goal

pub loop-station-preserved : goal.loop-station-preserved
loop-station-preserved g c =
    let f = g.F.Field.ops in
    let M = c.args.farm.now.stations in
    let N = c.args.farm.now.pages in
    let E = g.G.RowGaps.gaps c.args.gaps.now in
    let before = c.args.tally.now in
    let t = c.loop-station.station-counter in (
      omega arith,
      subst (λ k. RowsPut N k before c.put_row.new.tally (due f N E before)) (let q : t ≡ t + 1 - 1 = omega arith in q)
          (rows_more f M N E before c.requires t (t - 1) c.loop-station.tally c.put_row.new.tally c.loop-station.invariant.1 (omega arith) (omega arith) (omega arith)
          (c.put_row.ensures (E 1 t) (λ page code from to p. search rules))),
    )

pub returns-2 : goal.returns-2
returns-2 g c =
    let f = g.F.Field.ops in
    let M = c.args.farm.now.stations in
    let N = c.args.farm.now.pages in
    let E = g.G.RowGaps.gaps c.args.gaps.now in
    let before = c.args.tally.now in
    let t = c.loop-station.station-counter in
    rows_filled f M N E before c.requires c.put_row.new.tally
    (subst (λ k. RowsPut N k before c.put_row.new.tally (due f N E before)) (let q : t ≡ M = omega arith in q)
    (rows_more f M N E before c.requires t (t - 1) c.loop-station.tally c.put_row.new.tally c.loop-station.invariant.1 (omega arith) (omega arith) (omega arith)
    (c.put_row.ensures (E 1 t) (λ page code from to p. search rules))))
