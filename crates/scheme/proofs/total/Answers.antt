use Rattle.scheme.proofs.AtLeastOne.{some_outcome}
use Rattle.scheme.proofs.total.Goals as goal

pub returns : goal.returns
returns c = some_outcome
