use Rattle.scheme.proofs.AnyOrder.{additive}
use Rattle.scheme.proofs.additive.Goals as goal

pub returns : goal.returns
returns c = additive
