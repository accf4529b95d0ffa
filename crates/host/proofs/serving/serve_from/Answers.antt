use Rattle.host.proofs.Served.{told_reply, told_refusal}
use Rattle.host.proofs.serving.serve_from.Goals as goal

pub returns-in-Ok : goal.returns-in-Ok
returns-in-Ok g c =
    told_reply g.F.Field.ops (g.S.Station.row c.args.station.now) c.args.number c.args.request.now c.args.reply.now c.serve.new.reply c.args.count.now c.args.place.now
    c.in-Ok.written c.in-Ok.ensures

pub returns-in-Err : goal.returns-in-Err
returns-in-Err g c =
    told_refusal g.F.Field.ops (g.S.Station.row c.args.station.now) c.args.number c.args.request.now c.args.reply.now c.serve.new.reply c.args.count.now c.args.place.now
    c.in-Err.refusal c.refuse.new.place c.refuse.result c.refuse.ensures.status c.refuse.ensures.place c.in-Err.ensures
