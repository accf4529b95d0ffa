use Rattle.std.proofs.Common.{◌≡◌, ℕ, ◌+◌, length, sym, ap, ◌∙◌, subst, add-one, arith, rules}
use Rattle.field.specs.Field.{power}
use Rattle.solve.specs.Polynomials.{at, value}
use Rattle.solve.specs.Candidates.{Roots}
use Rattle.solve.proofs.Choosing.{skip, join, joined_fits}
use Rattle.solve.proofs.candidates.roots.Goals as goal
use Rattle.solve.proofs.candidates.roots.Goals.{then-evaluate-eq0, else-evaluate-eq0}

pub push-requires : goal.push-requires
push-requires g c =
    let f = g.F.Field.ops in
    let q : ℕ → ℕ = value f (length c.args.locator.now) (at c.args.locator.now) 0 in
    let k = c.loop-before.before in
    let pw = ap (power f f.alpha) (add-one k) in
    let here : c.mul-point.result ≡ power f f.alpha (k + 1) = let alpha = g.met.F.Field.named.alpha_is in cc in
    (search rules, joined_fits f q k c.loop-before.found.items c.loop-before.invariant.found (sym (c.evaluate.ensures ∙ ap q here) ∙ c.if-evaluate-eq0.true) _ here c.args.pages c.requires (omega arith))

pub loop-before-preserved : goal.loop-before-preserved
loop-before-preserved g c =
    let f = g.F.Field.ops in
    let q : ℕ → ℕ = value f (length c.args.locator.now) (at c.args.locator.now) 0 in
    let k = c.loop-before.before in
    let pw = ap (power f f.alpha) (add-one k) in
    let here : c.mul-point.result ≡ power f f.alpha (k + 1) = let alpha = g.met.F.Field.named.alpha_is in cc in
    let val : c.evaluate.result ≡ q (power f f.alpha (k + 1)) = c.evaluate.ensures ∙ ap q here in
    let old = c.loop-before.invariant.found in record {
      point_of = here;
      found = elim c.if-evaluate-eq0.branch [
        | then-evaluate-eq0 w ↦ subst (λ cs. Roots f q (k + 1) cs) (sym (ap (λ v. v.items) w.found-is ∙ w.push.ensures.items)) (join f q k c.loop-before.found.items old (sym val ∙ w.if-evaluate-eq0.true) c.mul-point.result here)
        | else-evaluate-eq0 w ↦ subst (λ cs. Roots f q (k + 1) cs) (sym (ap (λ v. v.items) w.found-is)) (skip f q k _ old (λ z. w.if-evaluate-eq0.false (val ∙ z)))
      ];
    }
