use Rattle.std.proofs.Common.{◌∙◌, rules}
use Rattle.std.proofs.lemmas.Iterator.Adapters.{YieldsList-from_rev_slice}
use Rattle.std.proofs.lemmas.Iterator.Consumers.{fold_from_yields_List}
use Rattle.solve.proofs.Folds.{value_fold}
use Rattle.solve.proofs.polynomial.evaluate.Goals as goal

pub returns : goal.returns
returns g c =
    let f = g.F.Field.ops in
    let cs = c.args.coefficients.now in
    let x = c.args.x in
    fold_from_yields_List _ (λ v c. f.plus (f.times v x) c) 0 c.fold.result c.fold.ensures.ran (YieldsList-from_rev_slice cs (cc)) (λ a y b q k. search rules)
    ∙ value_fold f x cs
