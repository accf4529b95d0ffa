use Rattle.std.proofs.Common.{rules}
use Rattle.fields.specs.declared.FieldName.TheVariants.{Small, Wide, Prime}
use Rattle.verdict.specs.Judging.{Weighed}
use Rattle.host.proofs.Judged.{judged_in}
use Rattle.host.proofs.judging.wulambey_weigh.Goals as goal

pub returns-in-Ok-Small : goal.returns-in-Ok-Small
returns-in-Ok-Small c =
    judged_in Weighed Small c.args.stations c.args.pages c.args.bound c.args.tally.now _ c.args.place.now c.tell.new.place c.tell.result
    c.args.field (search rules) _ (search rules) c.tell.ensures

pub returns-in-Ok-Wide : goal.returns-in-Ok-Wide
returns-in-Ok-Wide c =
    judged_in Weighed Wide c.args.stations c.args.pages c.args.bound c.args.tally.now _ c.args.place.now c.tell-in-Ok-Wide.new.place c.tell-in-Ok-Wide.result
    c.args.field (search rules) _ (search rules) c.tell-in-Ok-Wide.ensures

pub returns-in-Ok-Prime : goal.returns-in-Ok-Prime
returns-in-Ok-Prime c =
    judged_in Weighed Prime c.args.stations c.args.pages c.args.bound c.args.tally.now _ c.args.place.now c.tell-in-Ok-Prime.new.place c.tell-in-Ok-Prime.result
    c.args.field (search rules) _ (search rules) c.tell-in-Ok-Prime.ensures
