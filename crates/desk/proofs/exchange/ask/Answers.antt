use Rattle.std.proofs.Common.{Ok, replicate, take, refl, subst}
use Rattle.calls.specs.Slips.{Slips, Takes, Returns}
use Rattle.station.proofs.Ends.{ends_agree}
use Rattle.station.specs.Codes.{card_codes}
use Rattle.station.specs.Kinds.{card_row}
use Rattle.station.specs.Serving.{Served}
use Rattle.desk.proofs.Readied.{reply_told, takes_ok, comes_answered}
use Rattle.desk.proofs.exchange.ask.Goals as goal

pub unwrap-requires : goal.unwrap-requires
unwrap-requires g c =
    let f = g.F.Field.ops in
    let row = card_row f c.args.card.now.words.now in
    let slips = subst (λ r. Slips c.args.check.now.book (g.P.Asking.only c.args.check.now.phase) c.args.station (replicate 4 0) r c.slip.new.self.book c.slip.new.request)
    c.unwrap-slip.ensures c.slip.ensures.book in
    let served = subst (λ r. Served f row c.args.station c.slip.new.request (replicate 132 0) c.serve.new.reply r) c.unwrap-count.ensures c.serve.ensures in
    takes_ok c.requires slips.1 f g.met.F.Field.lawful ends_agree (card_codes g.met.F.Field.lawful c.args.card.now.words.now) _
    (reply_told c.requires slips.1 f refl c.unwrap-count.result (replicate 132 0) c.serve.new.reply served) c.take.new.self.book c.args.tally.now c.take.new.tally c.take.result refl c.take.ensures.book

pub returns-clause-exchange : goal.returns-clause-exchange
returns-clause-exchange g c =
    let f = g.F.Field.ops in
    let row = card_row f c.args.card.now.words.now in
    let slips = subst (λ r. Slips c.args.check.now.book (g.P.Asking.only c.args.check.now.phase) c.args.station (replicate 4 0) r c.slip.new.self.book c.slip.new.request)
    c.unwrap-slip.ensures c.slip.ensures.book in
    let served = subst (λ r. Served f row c.args.station c.slip.new.request (replicate 132 0) c.serve.new.reply r) c.unwrap-count.ensures c.serve.ensures in
    let told = reply_told c.requires slips.1 f refl c.unwrap-count.result (replicate 132 0) c.serve.new.reply served in
    let takes = subst (λ r. Takes f c.slip.new.self.book c.unwrap-slip.result.request (take c.unwrap-count.result c.serve.new.reply) c.args.tally.now r c.take.new.self.book c.take.new.tally) c.unwrap.ensures c.take.ensures.book in
    let returns = subst (λ r. Returns c.take.new.self.book c.unwrap-slip.result.request r c.return_slip.new.self.book) c.unwrap-2.ensures c.return_slip.ensures.book in
    record {
      slip = c.unwrap-slip.result;
      blank = replicate 4 0;
      request = c.slip.new.request;
      reply = _;
      handed = c.slip.new.self.book;
      taken = c.take.new.self.book;
      slips = slips;
      replies = told;
      takes = takes;
      returns =
          subst (λ r. Returns c.take.new.self.book c.unwrap-slip.result.request (Ok r) c.return_slip.new.self.book)
          (comes_answered c.requires slips.1 f g.met.F.Field.lawful ends_agree (card_codes g.met.F.Field.lawful c.args.card.now.words.now) _ told
          takes.1 c.unwrap-2.result returns.1.says) returns;
    }
