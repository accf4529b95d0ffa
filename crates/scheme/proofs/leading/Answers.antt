use Rattle.scheme.proofs.Lead as lead
use Rattle.scheme.proofs.leading.Goals as goal

pub returns : goal.returns
returns c = lead.leading
