use Rattle.std.proofs.Common.{◌≡◌, length, set, replicate, refl, sym, ap, ◌∙◌, arith}
use Rattle.std.proofs.lemmas.List.{get_or-map}
use Rattle.solve.specs.Polynomials.{at, shifted}
use Rattle.solve.specs.Candidates.{points_of}
use Rattle.solve.proofs.Products.{first, next, last}
use Rattle.solve.proofs.Arrays.{one_first}
use Rattle.solve.proofs.entries.product.Goals as goal
use Rattle.solve.specs.declared.limits.TheConstants.{COEFFICIENTS}

pub loop-candidate-init : goal.loop-candidate-init
loop-candidate-init g c = first g.met.F.Field.lawful (at (points_of c.args.candidates.now)) (at (set (replicate COEFFICIENTS 0) 0 1)) refl (one_first COEFFICIENTS)

pub loop-candidate-preserved : goal.loop-candidate-preserved
loop-candidate-preserved g c =
    let f = g.F.Field.ops in
    let cs = c.args.candidates.now in
    let p = at c.loop-candidate.product in
    let m = c.loop-candidate.candidate-index in
    next g.met.F.Field.lawful m (at (points_of cs)) p (at c.combine-product.result) (omega arith) c.loop-candidate.invariant
    (λ i b. c.combine-product.ensures i b ∙ ap (λ z. f.minus (shifted 1 p i) (f.times z (shifted 0 p i))) (sym (get_or-map (λ c. c.point) cs m _ 0 c.loop-candidate-test.true)))

pub returns : goal.returns
returns g c =
    let e : length c.args.candidates.now ≡ c.loop-candidate.candidate-index = omega arith in
    rw e (last g.met.F.Field.lawful c.loop-candidate.candidate-index (at (points_of c.args.candidates.now)) _ (omega arith) c.loop-candidate.invariant)
