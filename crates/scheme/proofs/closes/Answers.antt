use Rattle.scheme.proofs.Tables.{closes}
use Rattle.scheme.proofs.closes.Goals as goal

pub returns : goal.returns
returns c = closes
