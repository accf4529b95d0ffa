use Rattle.algebra.proofs.Theorems.{far}
use Rattle.algebra.proofs.far.Goals as goal

pub returns : goal.returns
returns c = far
