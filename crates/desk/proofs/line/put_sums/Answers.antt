use Rattle.std.proofs.Common.{length, lit<, ap, length-append, arith}
use Rattle.desk.proofs.LinesWritten.{sums_line_short}
use Rattle.desk.proofs.line.put_sums.Goals as goal

pub put_number-requires : goal.put_number-requires
put_number-requires c =
    let line = sums_line_short c.args.count c.ranges.count.fits in
    (lit< tt, omega (arith, simp length-append at line, simp length-append at (ap length c.put.ensures)))

pub put-requires-2 : goal.put-requires-2
put-requires-2 c =
    let line = sums_line_short c.args.count c.ranges.count.fits in
    (lit< tt, omega (arith, simp length-append at line, simp length-append at (ap length c.put.ensures), simp length-append at (ap length c.put_number.ensures)))
