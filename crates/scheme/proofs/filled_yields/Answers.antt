use Rattle.scheme.proofs.Yields.{filled_yields}
use Rattle.scheme.proofs.filled_yields.Goals as goal

pub returns : goal.returns
returns c = filled_yields
