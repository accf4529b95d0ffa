use Rattle.refusal.proofs.Lists.{exclusive}
use Rattle.refusal.proofs.theorems.exclusive.Goals as goal

pub returns : goal.returns
returns g c = exclusive g.R.Ruled.rules
