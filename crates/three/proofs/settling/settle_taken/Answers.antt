use Rattle.std.proofs.Common.{◌≡◌, Some, refl, sym, subst}
use Rattle.scheme.specs.Three.{third, row_of_three}
use Rattle.solve.specs.Answer.{code_at}
use Rattle.tally.specs.Rows.{sum_in, signature_in, RowPut}
use Rattle.pairs.specs.Held as pairs
use Rattle.three.proofs.Anew.{anew_none, anew_some, told}
use Rattle.three.proofs.BySums.{taken, is_listed, is_held}
use Rattle.three.proofs.Filling.{rows_filled}
use Rattle.three.proofs.settling.settle_taken.Goals as goal

pub returns-then-is_none : goal.returns-then-is_none
returns-then-is_none g c =
    let f = g.F.Field.ops in
    let farm = c.args.farm.now in
    let N = farm.pages in
    let T = sum_in c.args.tally.now N in
    let x = c.args.taken in
    let held = is_held f N farm.bound T c.args.gaps.now c.requires.solved x c.requires.taken_is in
    let anew = c.solve_pair.new.difference in
    let a = told f N farm.bound _ _ _ (third x.first x.second) _ c.args.tally.now anew.weight anew.list c.solve_pair.ensures c.rows.ensures.0 c.rows.ensures.2 c.all_sums.ensures c.third-other.ensures in (
      (
        x.first,
        x.second,
        code_at held.0.list,
        taken f N farm.bound T c.args.gaps.now c.requires.solved x c.requires.taken_is held.0 held.1,
        anew_none f N farm.bound T (third x.first x.second) anew.weight anew.list a c.if-is_none.ensures,
      ),
      refl,
    )

pub put_minus-requires : goal.put_minus-requires
put_minus-requires g c =
    let farm = c.args.farm.now in
    let N = farm.pages in
    let T = sum_in c.args.tally.now N in
    let x = c.args.taken in
    let anew = c.solve_pair.new.difference in
    let a = told g.F.Field.ops N farm.bound _ _ _ (third x.first x.second) _ c.args.tally.now anew.weight anew.list c.solve_pair.ensures c.rows.ensures.0 c.rows.ensures.2 c.all_sums.ensures c.third-other.ensures in
    (_, (anew_some g.F.Field.ops N farm.bound T (third x.first x.second) anew.weight anew.list a c.if-is_none.ensures).1)

pub put_minus-requires-2 : goal.put_minus-requires-2
put_minus-requires-2 g c =
    let farm = c.args.farm.now in
    let N = farm.pages in
    let T = sum_in c.args.tally.now N in
    let held : pairs.held c.args.gaps.now c.args.taken.first c.args.taken.second ≡ Some c.in-Some.difference.now = sym c.in-Some.ensures in
    (_, is_listed g.F.Field.ops N farm.bound T c.args.gaps.now c.requires.solved c.args.taken c.requires.taken_is c.in-Some.difference.now held)

pub returns : goal.returns
returns g c =
    let f = g.F.Field.ops in
    let farm = c.args.farm.now in
    let N = farm.pages in
    let before = c.args.tally.now in
    let T = sum_in before N in
    let x = c.args.taken in
    let anew = c.solve_pair.new.difference in
    let y = c.in-Some.difference.now in
    let a = told f N farm.bound _ _ _ (third x.first x.second) _ c.args.tally.now anew.weight anew.list c.solve_pair.ensures c.rows.ensures.0 c.rows.ensures.2 c.all_sums.ensures c.third-other.ensures in
    let solves = (anew_some f N farm.bound T (third x.first x.second) anew.weight anew.list a c.if-is_none.ensures).0 in
    let held : pairs.held c.args.gaps.now x.first x.second ≡ Some y = sym c.in-Some.ensures in
    let pair = taken f N farm.bound T c.args.gaps.now c.requires.solved x c.requires.taken_is y held in
    let d = code_at anew.list in
    let e = code_at y.list in
    let one = subst (λ k. RowPut N N k before c.put_minus.new.tally (λ n. f.minus (signature_in before N 1 n) (d n))) c.third-other.ensures c.put_minus.ensures in (
      row_of_three f (signature_in before N 1) x.first x.second e d,
      (x.first, x.second, e, d, pair, solves, λ r n st p. refl),
      rows_filled f N x.first x.second c.requires.taken_is.pair e d before c.put_minus.new.tally c.put_minus-2.new.tally c.requires.room one c.put_minus-2.ensures,
    )
