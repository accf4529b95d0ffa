use Rattle.wire.proofs.ReadBack.{replies_read_back}
use Rattle.wire.proofs.theorems.replies_read_back.Goals as goal

pub returns : goal.returns
returns c = replies_read_back
