use Rattle.std.proofs.Common.{◌-◌, ◌∙◌, arith, rules}
use Rattle.tally.proofs.RowPutting.{row_turn, row_done}
use Rattle.tally.proofs.row.put_row.Goals as goal
use Rattle.tally.proofs.row.put_row.Goals.{else-loop-page-test, then-loop-page-test+else-page-pages}

pub loop-page-preserved : goal.loop-page-preserved
loop-page-preserved g c = (
  omega arith,
  λ e tells.
      row_turn g.F.Field.ops c.args.pages c.args.from c.args.to c.loop-page.page _ e c.args.tally.now c.loop-page.tally c.put_signature.new.tally (omega arith) (omega arith) (omega arith)
      (c.loop-page.invariant.1 e tells) _ _ _ c.signature_at-signature.ensures (tells c.loop-page.page c.gap.result (omega arith) (omega arith) c.gap.ensures) (search rules) c.put_signature.ensures,
)

pub returns : goal.returns
returns g c = λ e tells. elim c.loop-page-test.branch [
  | else-loop-page-test w ↦ row_done c.args.pages (c.loop-page.page - 1) c.args.to c.args.tally.now c.loop-page.tally c.loop-page-test.tally _ (omega arith) w.tally-is (c.loop-page.invariant.1 e tells)
  | then-loop-page-test+else-page-pages w ↦
      row_turn g.F.Field.ops c.args.pages c.args.from c.args.to c.loop-page.page c.args.pages e c.args.tally.now c.loop-page.tally c.loop-page-test.tally (omega arith) (omega arith) (omega arith)
      (c.loop-page.invariant.1 e tells) _ _ _ w.signature_at-signature.ensures (tells c.loop-page.page w.gap.result (omega arith) (omega arith) w.gap.ensures) (search rules) (w.tally-is ∙ w.put_signature.ensures)
]
