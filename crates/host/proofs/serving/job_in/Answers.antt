use Rattle.host.specs.Ending.{lent}
use Rattle.host.proofs.Served.{told_job}
use Rattle.host.proofs.serving.job_in.Goals as goal

pub returns-in-Ok : goal.returns-in-Ok
returns-in-Ok g c =
    let made = c.in-Ok.ensures in
    told_job g.F.Field.ops c.args.station c.args.request.now (lent c.args.reply.now c.args.count.now c.args.place.now)
    (lent c.serve_from.new.reply c.serve_from.new.count c.serve_from.new.place) c.serve_from.result
    c.args.length c.in-Ok.shelf.cut.page_length c.in-Ok.shelf.cut.pages c.args.job.now c.in-Ok.shelf.job.now made.1 made.2 made.3 made.0 c.serve_from.ensures
