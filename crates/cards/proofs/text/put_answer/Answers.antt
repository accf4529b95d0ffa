use Rattle.std.proofs.Common.{◌≡◌, length, ap, lit<, arith}
use Rattle.cards.proofs.Short.{last_line_short, cut_refused_short}
use Rattle.cards.proofs.text.put_answer.Goals as goal

pub put_count-requires : goal.put_count-requires
put_count-requires g c =
    let line = last_line_short c.in-Ok.pages (omega (arith, c.in-Ok.ensures.0.1.0, c.in-Ok.ensures.1)) in
    (lit< tt, omega (arith, c.put_pages.ensures.short, c.in-Ok.ensures.0.1.0, c.in-Ok.ensures.1, line))

pub put_refusal-requires : goal.put_refusal-requires
put_refusal-requires g c =
    let none : length c.args.text.now ≡ 0 = ap length c.requires in
    (lit< tt, omega (arith, none, cut_refused_short g.F.Field.ops c.args.page_length (length c.args.job.now) c.in-Err.refusal c.in-Err.ensures))
