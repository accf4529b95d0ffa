use Rattle.host.proofs.Signed.{told_page}
use Rattle.host.proofs.single.sign_page.Goals as goal

pub returns : goal.returns
returns g c =
    let made = c.in_ok-new.ensures in
    told_page g.F.Field.ops c.args.page_length c.args.job.now c.args.page c.in_ok-new.field-0.cut.page_length c.in_ok-new.field-0.cut.pages c.in_ok-new.field-0.job.now
    made.1 made.2 made.3 made.0 c.signature.result c.signature.ensures
