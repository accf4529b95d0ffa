use Rattle.std.proofs.Common.{◌++◌, length, take, get_or, ap, ◌∙◌, append_assoc, length-append, arith}
use Rattle.desk.specs.Lines.{copy_line, copy_lines}
use Rattle.desk.proofs.LinesWritten.{copy_line_short, copy_lines_more}
use Rattle.desk.proofs.report.put_pages.Goals as goal

pub put_copy-requires : goal.put_copy-requires
put_copy-requires c =
    let page = get_or c.args.pages.now c.loop-page.page-index 0 in
    let line = copy_line_short c.args.station page c.requires.station (c.requires.pages c.loop-page.page-index (omega arith)) in
    omega (arith, line)

pub loop-page-preserved : goal.loop-page-preserved
loop-page-preserved c =
    let i = c.loop-page.page-index in
    let page = get_or c.args.pages.now i 0 in
    let line = copy_line_short c.args.station page c.requires.station (c.requires.pages i (omega arith)) in
    record {
      lines = c.put_copy.ensures ∙ ap (λ text. text ++ copy_line c.args.station page) c.loop-page.invariant.lines
          ∙ append_assoc c.args.text.now (copy_lines c.args.station (take i c.args.pages.now)) (copy_line c.args.station page)
          ∙ ap (λ lines. c.args.text.now ++ lines) (copy_lines_more c.args.station c.args.pages.now i c.loop-page-test.true);
      short = omega (arith, line, ap length c.put_copy.ensures, length-append c.loop-page.text (copy_line c.args.station page));
    }
