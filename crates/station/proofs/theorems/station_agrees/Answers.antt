use Rattle.station.proofs.Ends.{ends_agree}
use Rattle.station.proofs.theorems.station_agrees.Goals as goal

pub returns : goal.returns
returns g c = ends_agree g.F.Field.ops g.met.F.Field.lawful _ c.holds_codes.ensures
