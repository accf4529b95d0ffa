use Rattle.host.specs.Ending.{lent}
use Rattle.host.proofs.Served.{told_card}
use Rattle.host.proofs.serving.card_in.Goals as goal

pub returns-in-Ok : goal.returns-in-Ok
returns-in-Ok g c =
    told_card g.F.Field.ops c.args.station c.args.request.now (lent c.args.reply.now c.args.count.now c.args.place.now)
    (lent c.serve_from.new.reply c.serve_from.new.count c.serve_from.new.place) c.serve_from.result
    c.args.card.now c.in-Ok.card.words.now c.in-Ok.ensures.1 c.in-Ok.ensures.0 c.serve_from.ensures
