use Rattle.scheme.proofs.AtMostOne.{one_outcome}
use Rattle.scheme.proofs.one.Goals as goal

pub returns : goal.returns
returns c = one_outcome
