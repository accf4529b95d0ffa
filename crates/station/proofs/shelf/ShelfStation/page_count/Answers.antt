use Rattle.std.proofs.Common.{sym, ◌∙◌}
use Rattle.station.proofs.Rows.{shelf_length}
use Rattle.station.proofs.shelf.ShelfStation.page_count.Goals as goal

pub returns : goal.returns
returns g c =
    let shelf = c.args.self.now in
    c.pages.ensures.held ∙ sym (shelf_length g.met.F.Field.lawful shelf.cut.page_length shelf.cut.pages shelf.job.now)
