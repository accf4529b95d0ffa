use Rattle.algebra.proofs.Theorems.{vanishing}
use Rattle.algebra.proofs.vanishing.Goals as goal

pub returns : goal.returns
returns c = vanishing
