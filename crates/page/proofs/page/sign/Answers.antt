use Rattle.page.proofs.Parts.{filled}
use Rattle.page.proofs.page.sign.Goals as goal

pub returns : goal.returns
returns g c = let whole = filled g.met.F.Field.lawful c.args.page_length c.args.own.now in cc
