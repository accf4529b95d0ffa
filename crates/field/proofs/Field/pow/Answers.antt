use Rattle.std.proofs.Common.{◌∙◌, arith}
use Rattle.field.proofs.Laws.{one_code, one_times, code_mod, power_code, square_odd, square_even}
use Rattle.field.proofs.Field.pow.Goals as goal
use Rattle.field.proofs.Field.pow.Goals.{then-left-eq1, else-left-eq1}

pub loop-left-init : goal.loop-left-init
loop-left-init g c =
    let l = g.met.Self.Field.lawful in
    (one_times l _ ∙ code_mod l _ (power_code l c.args.a c.args.n), one_code l)

pub loop-left-preserved : goal.loop-left-preserved
loop-left-preserved g c =
    let f = g.Self.Field.ops in
    let l = g.met.Self.Field.lawful in
    let b = c.loop-left.base in
    let n = c.loop-left.left in
    let p = c.loop-left.product in
    let squared = c.mul-base.ensures in
    elim c.if-left-eq1.branch [
      | then-left-eq1 w ↦ (
        (let turn = square_odd l p b n w.if-left-eq1.true in cc),
        omega (arith, l.times_code p b),
      )
      | else-left-eq1 w ↦ (
        (let turn = square_even l p b n w.if-left-eq1.false in cc),
        omega arith,
      )
    ]
