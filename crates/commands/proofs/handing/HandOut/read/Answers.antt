use Rattle.std.proofs.Common.{rules}
use Rattle.commands.proofs.handing.HandOut.read.Goals as goal

pub returns : goal.returns
returns c =
    let number = c.in_ok-number.ensures in (c.name.new.self.words.items, search rules, (number.0, number.1, number.2.0.1))
