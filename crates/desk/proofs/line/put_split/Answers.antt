use Rattle.std.proofs.Common.{length, lit<, ap, length-append, arith}
use Rattle.desk.proofs.LinesWritten.{split_line_short}
use Rattle.desk.proofs.line.put_split.Goals as goal

pub put_number-requires : goal.put_number-requires
put_number-requires c =
    let line = split_line_short c.args.page c.ranges.page.fits in
    (lit< tt, omega (arith, simp length-append at line, simp length-append at (ap length c.put.ensures)))

pub put-requires-2 : goal.put-requires-2
put-requires-2 c =
    let line = split_line_short c.args.page c.ranges.page.fits in
    (lit< tt, omega (arith, simp length-append at line, simp length-append at (ap length c.put.ensures), simp length-append at (ap length c.put_number.ensures)))

pub returns-clause-short : goal.returns-clause-short
returns-clause-short c =
    let line = split_line_short c.args.page c.ranges.page.fits in
    omega (
      arith,
      simp length-append at line,
      simp length-append at (ap length c.put.ensures),
      simp length-append at (ap length c.put_number.ensures),
      simp length-append at (ap length c.put-2.ensures),
    )
