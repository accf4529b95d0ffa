-- The table passes its test, so each entry is its power of alpha.
use Rattle.std.proofs.Common.{ap, Some}
use Rattle.binary.proofs.Table.{looked_up}
use Rattle.binary.proofs.small.SmallModulusModulus.tabled_power.Goals as goal

pub returns : goal.returns
returns c = ap Some (looked_up c.args.n)
