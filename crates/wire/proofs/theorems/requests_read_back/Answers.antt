use Rattle.wire.proofs.ReadBack.{requests_read_back}
use Rattle.wire.proofs.theorems.requests_read_back.Goals as goal

pub returns : goal.returns
returns c = requests_read_back
