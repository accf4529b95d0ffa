use Rattle.algebra.proofs.Theorems.{unique}
use Rattle.algebra.proofs.unique.Goals as goal

pub returns : goal.returns
returns c = unique
