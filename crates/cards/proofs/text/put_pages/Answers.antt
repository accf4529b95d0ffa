use Rattle.std.proofs.Common.{◌+◌, ◌-◌, ◌++◌, length, ap, ap₂, ◌∙◌, lit<, arith, length-append}
use Rattle.page.specs.Pages.{page_signature}
use Rattle.cards.specs.Card.{page_line}
use Rattle.cards.proofs.Short.{page_line_short, page_lines_next}
use Rattle.cards.proofs.text.put_pages.Goals as goal

pub put_page-requires : goal.put_page-requires
put_page-requires g c =
    let line = page_line_short g.met.F.Field.lawful c.args.page_length c.args.job.now c.loop-page.page c.page_signature-signature.result (omega arith) c.page_signature-signature.ensures in
    (lit< tt, omega (arith, line))

pub loop-page-preserved : goal.loop-page-preserved
loop-page-preserved g c =
    let line = page_line_short g.met.F.Field.lawful c.args.page_length c.args.job.now c.loop-page.page c.page_signature-signature.result (omega arith) c.page_signature-signature.ensures in
    record {
      position = omega arith;
      lines = c.put_page.ensures ∙ ap₂ (λ lines s. lines ++ page_line c.loop-page.page s) c.loop-page.invariant.lines c.page_signature-signature.ensures
          ∙ page_lines_next (page_signature g.F.Field.ops c.args.page_length c.args.job.now) c.loop-page.page (c.loop-page.page + 1 - 1) (omega arith) (omega arith);
      short = omega (arith, line, ap length c.put_page.ensures, length-append c.loop-page.text (page_line c.loop-page.page c.page_signature-signature.result), c.loop-page.invariant.short);
    }

pub returns-2-clause-lines : goal.returns-2-clause-lines
returns-2-clause-lines g c =
    c.put_page.ensures ∙ ap₂ (λ lines s. lines ++ page_line c.loop-page.page s) c.loop-page.invariant.lines c.page_signature-signature.ensures
    ∙ page_lines_next (page_signature g.F.Field.ops c.args.page_length c.args.job.now) c.loop-page.page c.args.pages (omega arith) (omega arith)

pub returns-2-clause-short : goal.returns-2-clause-short
returns-2-clause-short g c =
    let line = page_line_short g.met.F.Field.lawful c.args.page_length c.args.job.now c.loop-page.page c.page_signature-signature.result (omega arith) c.page_signature-signature.ensures in
    omega (arith, line, ap length c.put_page.ensures, length-append c.loop-page.text (page_line c.loop-page.page c.page_signature-signature.result), c.loop-page.invariant.short)
