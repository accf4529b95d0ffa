use Rattle.binary.proofs.Table.{tabled}
use Rattle.binary.proofs.powers.powers_tabled.Goals as goal

pub returns : goal.returns
returns c = tabled
