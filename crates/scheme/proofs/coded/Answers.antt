use Rattle.scheme.proofs.Rows.{coded}
use Rattle.scheme.proofs.coded.Goals as goal

pub returns : goal.returns
returns c = coded
