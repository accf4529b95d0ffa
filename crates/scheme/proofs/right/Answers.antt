use Rattle.scheme.proofs.Truth.{right}
use Rattle.scheme.proofs.right.Goals as goal

pub returns : goal.returns
returns c = right
