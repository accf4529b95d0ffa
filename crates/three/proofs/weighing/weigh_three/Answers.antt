use Rattle.std.proofs.Common.{inl, refl, ap, arith}
use Rattle.solve.specs.Answer.{code_at}
use Rattle.scheme.specs.Askings.{first_sums}
use Rattle.tally.specs.Rows.{sum_in}
use Rattle.three.proofs.BySums.{taken, none_solved, is_held}
use Rattle.three.proofs.Ended.{taken_weighs}
use Rattle.three.proofs.weighing.weigh_three.Goals as goal

pub returns-in_default : goal.returns-in_default
returns-in_default g c =
    let farm = c.args.farm.now in
    (inl (none_solved g.F.Field.ops farm.pages farm.bound (sum_in c.args.tally.now farm.pages) c.args.gaps.now c.requires.solved c.in_default.ensures), refl)

pub returns-then-all_sums-first_sums : goal.returns-then-all_sums-first_sums
returns-then-all_sums-first_sums g c =
    let f = g.F.Field.ops in
    let farm = c.args.farm.now in
    let N = farm.pages in
    let T = sum_in c.args.tally.now N in
    let x = c.in-Some.taken in
    let held = is_held f N farm.bound T c.args.gaps.now c.requires.solved x c.in-Some.ensures in
    let first = ap (λ M. first_sums M farm.bound) c.requires.three in (
      (
        omega (arith, c.all_sums.ensures, c.first_sums.ensures, first, c.if-all_sums-first_sums.true),
        (x.first, x.second, code_at held.0.list, taken f N farm.bound T c.args.gaps.now c.requires.solved x c.in-Some.ensures held.0 held.1, c.third.ensures),
      ),
      refl,
    )

pub returns : goal.returns
returns g c =
    let farm = c.args.farm.now in
    let first = ap (λ M. first_sums M farm.bound) c.requires.three in
    taken_weighs g.F.Field.ops farm.pages farm.bound c.args.tally.now c.settle_taken.new.tally
    (omega (arith, c.all_sums.ensures, c.first_sums.ensures, first, c.if-all_sums-first_sums.false)) c.settle_taken.result c.settle_taken.ensures
