use Rattle.std.proofs.Common.{sym}
use Rattle.std.proofs.lemmas.List.{set_past}
use Rattle.tally.proofs.places.put.Goals as goal

pub returns-else-place-tally : goal.returns-else-place-tally
returns-else-place-tally c = sym (set_past c.args.tally.now c.args.place c.args.value c.if-place-tally.false)
