use Rattle.station.proofs.Ends.{ends_agree}
use Rattle.station.proofs.theorems.ends_agree.Goals as goal

pub returns : goal.returns
returns c = ends_agree
