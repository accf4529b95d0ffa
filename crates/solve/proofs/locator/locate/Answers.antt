use Rattle.std.proofs.Common.{◌≡◌, ℕ, ◌+◌, ◌-◌, set, replicate, length, take, sym, refl, ap, ◌∙◌, subst, arith}
use Rattle.std.proofs.lemmas.List.{get_or-replicate}
use Rattle.field.specs.Field.{Ops}
use Rattle.solve.specs.Polynomials.{at, Locates}
use Rattle.solve.proofs.Windows.{window_cut}
use Rattle.solve.proofs.Search.{start, stay, mend, grow, done}
use Rattle.solve.proofs.Arrays.{one_first}
use Rattle.solve.proofs.locator.locate.Goals as goal
use Rattle.solve.specs.declared.limits.TheConstants.{COEFFICIENTS}

scaled : (f : Ops) (x i y last u v : ℕ) → i ≡ f.inverse last → y ≡ f.times x i → f.minus u (f.times y v) ≡ f.minus u (f.times (f.times x (f.inverse last)) v)
scaled f x i y last u v ei ey = ap (λ z. f.minus u (f.times z v)) (ey ∙ ap (f.times x) ei)

pub loop-cleared-init : goal.loop-cleared-init
loop-cleared-init g c =
    start g.met.F.Field.lawful c.args.weight c.requires.light (at c.args.values.now) (at (set (replicate COEFFICIENTS 0) 0 1)) (at (replicate COEFFICIENTS 0)) refl (one_first COEFFICIENTS) (λ i hi. get_or-replicate COEFFICIENTS i 0 0 hi)

pub loop-cleared-preserved-then-discrepancy-eq0 : goal.loop-cleared-preserved-then-discrepancy-eq0
loop-cleared-preserved-then-discrepancy-eq0 g c =
    let h = c.loop-cleared.invariant in
    let short = h.short in
    let e = c.against-discrepancy.ensures ∙ window_cut g.F.Field.ops c.loop-cleared.locator c.args.values.now c.loop-cleared.degree c.loop-cleared.cleared (length c.args.values.now - c.loop-cleared.cleared) (omega arith) (omega arith) in
    stay g.met.F.Field.lawful c.args.weight c.requires.light _ _ _ _ _ _ h c.loop-cleared-test.true (sym e ∙ c.if-discrepancy-eq0.true)

pub loop-cleared-preserved-then-cleared-degree : goal.loop-cleared-preserved-then-cleared-degree
loop-cleared-preserved-then-cleared-degree g c =
    let h = c.loop-cleared.invariant in
    let short = h.short in
    let e = c.against-discrepancy.ensures ∙ window_cut g.F.Field.ops c.loop-cleared.locator c.args.values.now c.loop-cleared.degree c.loop-cleared.cleared (length c.args.values.now - c.loop-cleared.cleared) (omega arith) (omega arith) in
    mend g.met.F.Field.lawful c.args.weight c.requires.light _ _ _ _ _ _ h c.loop-cleared-test.true c.if-cleared-degree.true _ e _
    (λ i b. c.combine-locator.ensures i b ∙ scaled g.F.Field.ops _ _ _ _ _ _ c.inv.ensures c.mul-scale.ensures)

pub loop-cleared-preserved : goal.loop-cleared-preserved
loop-cleared-preserved g c =
    let h = c.loop-cleared.invariant in
    let short = h.short in
    let e = c.against-discrepancy.ensures ∙ window_cut g.F.Field.ops c.loop-cleared.locator c.args.values.now c.loop-cleared.degree c.loop-cleared.cleared (length c.args.values.now - c.loop-cleared.cleared) (omega arith) (omega arith) in
    grow g.met.F.Field.lawful c.args.weight c.requires.light _ _ _ _ _ _ h c.loop-cleared-test.true c.if-cleared-degree.false _ e c.if-discrepancy-eq0.false _
    (λ i b. c.combine-longer.ensures i b ∙ scaled g.F.Field.ops _ _ _ _ _ _ c.inv.ensures c.mul-scale.ensures)

pub returns : goal.returns
returns g c =
    let h = c.loop-cleared.invariant in
    let short = h.short in
    let cut = c.truncate.ensures.items ∙ ap (take (c.loop-cleared.degree + 1)) c.from-coefficients.ensures.0 in
    subst (λ p. Locates g.F.Field.ops c.args.weight (at c.args.values.now) p) (sym cut)
    (done g.met.F.Field.lawful c.args.weight c.requires.light _ _ _ _ _ _ h c.loop-cleared-test.false (omega (arith, ap length c.from-coefficients.ensures.0, c.from-coefficients.ensures.1)))
