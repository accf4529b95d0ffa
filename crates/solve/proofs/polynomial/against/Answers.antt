use Rattle.std.proofs.Common.{◌∙◌, rules}
use Rattle.std.proofs.lemmas.Iterator.{YieldsList-from_slice, YieldsList-from_zip}
use Rattle.std.proofs.lemmas.Iterator.Consumers.{fold_from_yields_List}
use Rattle.algebra.proofs.Codes.{zero_code}
use Rattle.field.proofs.Laws.{code_mod}
use Rattle.solve.proofs.Folds.{window_fold}
use Rattle.solve.proofs.Words.{window_code}
use Rattle.solve.proofs.polynomial.against.Goals as goal

pub returns : goal.returns
returns g c =
    let f = g.F.Field.ops in
    let l = g.met.F.Field.lawful in
    let cs = c.args.coefficients.now in
    let vs = c.args.values.now in
    fold_from_yields_List _ (λ s p. f.plus (f.times p.0 p.1) s) 0 c.fold.result c.fold.ensures.ran
    (YieldsList-from_zip (YieldsList-from_slice cs (cc)) (YieldsList-from_slice vs (cc))) (λ a y b q k. search rules)
    ∙ window_fold l cs vs c.requires 0 (zero_code l)
    ∙ l.plus_zero _ ∙ code_mod l _ (window_code l _ _ _ _ _)
