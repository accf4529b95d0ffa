use Rattle.std.proofs.Common.{◌≡◌, length, ap, lit<, arith}
use Rattle.desk.proofs.ReadRefused.{refused_short}
use Rattle.desk.proofs.text.put_findings.Goals as goal

pub put_refusal-requires : goal.put_refusal-requires
put_refusal-requires c =
    let none : length c.args.text.now ≡ 0 = ap length c.requires in
    (lit< tt, omega (arith, none, refused_short c.args.input.now (omega arith) c.in-Err.refusal c.in-Err.ensures))
