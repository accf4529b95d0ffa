use Rattle.std.proofs.Common.{◌++◌, ap, ◌∙◌, arith}
use Rattle.desk.specs.Lines.{sums_line}
use Rattle.desk.proofs.LinesFound.{farm_text}
use Rattle.desk.proofs.text.put_farm.Goals as goal

pub put_sums-requires : goal.put_sums-requires
put_sums-requires c = omega (arith, c.put_verdict.ensures.short)

pub returns : goal.returns
returns c =
    let farm = c.args.farm.now in
    let check = c.unwrap-check.result in
    let says = c.put_verdict.ensures.says in
    farm_text farm.stations farm.pages farm.bound c.args.signatures.now c.as_slice.result.now (c.as_slice.ensures.value ∙ c.widen.ensures)
    _ check.book check.phase.verdict c.check_cards.new.tally (rw c.unwrap-check.ensures at c.check_cards.ensures).1
    says.0 c.put_verdict.new.text says.1 c.put_sums.new.text
    (c.put_sums.ensures ∙ ap (λ counts. c.put_verdict.new.text ++ sums_line counts.taken) c.counts.ensures)
