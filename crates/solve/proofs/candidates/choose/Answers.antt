use Rattle.std.proofs.Common.{◌+◌, ◌≤◌, [], length, sym, inl, inr, subst, arith}
use Rattle.solve.specs.Polynomials.{at, Locates}
use Rattle.solve.proofs.Covering.{fewer_pages, covers_all, few_located, covers_located}
use Rattle.solve.proofs.candidates.choose.Goals as goal

pub roots-requires : goal.roots-requires
roots-requires g c = λ m h x r z. let w = fewer_pages g.F.Field.ops c.args.pages m h x r in omega arith

pub returns-then-values-pages : goal.returns-then-values-pages
returns-then-values-pages g c =
    covers_all g.F.Field.ops c.args.pages c.args.weight c.args.values.now c.if-values-pages.true (at []) _ c.roots.ensures

pub roots-requires-2 : goal.roots-requires-2
roots-requires-2 g c = λ m h x r z.
    let f = g.F.Field.ops in
    let loc = subst (λ p. Locates f c.args.weight (at c.args.values.now) p) (sym c.deref.ensures.0) c.locate.ensures in
    let w = few_located g.met.F.Field.lawful g.met.F.Field.spread c.args.pages c.requires.few_pages c.args.weight c.args.values.now c.deref.result.now loc m h x r z in
    let two : c.args.weight + c.args.weight ≤ length c.args.values.now = elim c.requires.enough [ inl all ↦ absurd (c.if-values-pages.false all) | inr two ↦ two ] in
    omega arith

pub returns : goal.returns
returns g c =
    let f = g.F.Field.ops in
    let loc = subst (λ p. Locates f c.args.weight (at c.args.values.now) p) (sym c.deref.ensures.0) c.locate.ensures in
    let two : c.args.weight + c.args.weight ≤ length c.args.values.now = elim c.requires.enough [ inl all ↦ absurd (c.if-values-pages.false all) | inr two ↦ two ] in
    covers_located g.met.F.Field.lawful g.met.F.Field.spread c.args.pages c.requires.few_pages c.args.weight c.args.values.now c.deref.result.now loc two _ c.roots-2.ensures
