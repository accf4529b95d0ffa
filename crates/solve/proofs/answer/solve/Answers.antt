use Rattle.std.proofs.Common.{ℕ, ◌<◌, ◌≤◌, length, refl, sym, subst, arith}
use Rattle.solve.specs.Polynomials.{at}
use Rattle.solve.specs.Candidates.{pages_of}
use Rattle.solve.proofs.Solutions.{unsolvable, solved}
use Rattle.solve.proofs.answer.solve.Goals as goal

pub list_nonzeros-requires : goal.list_nonzeros-requires
list_nonzeros-requires g c =
    subst (λ cs. (i j : ℕ) → i < j → j < length cs → at (pages_of cs) i < at (pages_of cs) j) (sym c.interpolate-coded.ensures.candidates) c.choose-candidates.ensures.rising.rise

pub returns-else-verified : goal.returns-else-verified
returns-else-verified g c =
    let accepted = c.in_ok-accept.ensures in
    let limit : c.args.pages ≤ g.F.Field.ops.places = omega (arith, accepted.0.1) in
    let cover = c.choose-candidates.ensures in
    let codes = c.interpolate-coded.ensures in (
      accepted,
      (
        unsolvable g.met.F.Field.lawful c.args.pages c.args.weight c.args.values.now c.choose-candidates.result.items cover c.interpolate-coded.result.items
            codes.candidates codes.codes (codes.forced c.args.pages limit cover.rising) c.if-verified.ensures,
        refl {a = c.args.list.now},
      ),
    )

pub returns-then-verified : goal.returns-then-verified
returns-then-verified g c =
    let accepted = c.in_ok-accept.ensures in
    let limit : c.args.pages ≤ g.F.Field.ops.places = omega (arith, accepted.0.1) in
    let cover = c.choose-candidates.ensures in
    let codes = c.interpolate-coded.ensures in (
      accepted,
      solved g.met.F.Field.lawful c.args.pages c.args.weight c.args.values.now c.choose-candidates.result.items cover c.interpolate-coded.result.items
          codes.candidates codes.codes (codes.forced c.args.pages limit cover.rising) c.if-verified.ensures c.list_nonzeros.result c.list_nonzeros.new.list c.list_nonzeros.ensures.fits c.list_nonzeros.ensures.listed,
    )
