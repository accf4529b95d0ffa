use Rattle.std.proofs.Common.{refl, inl}
use Rattle.solve.specs.Answer.{code_at}
use Rattle.tally.specs.Rows.{sum_in}
use Rattle.three.proofs.BySums.{taken, none_solved, is_held}
use Rattle.three.proofs.Ended.{taken_settles}
use Rattle.three.proofs.settling.settle_three.Goals as goal

pub returns-in-Some : goal.returns-in-Some
returns-in-Some g c =
    let f = g.F.Field.ops in
    let farm = c.args.farm.now in
    let N = farm.pages in
    let T = sum_in c.args.tally.now N in
    let x = c.in-Some.taken in
    let held = is_held f N farm.bound T c.args.gaps.now c.requires.solved x c.in-Some.ensures in
    taken_settles f N farm.bound c.args.tally.now c.settle_taken.new.tally x.first x.second (code_at held.0.list)
    (taken f N farm.bound T c.args.gaps.now c.requires.solved x c.in-Some.ensures held.0 held.1) c.settle_taken.result c.settle_taken.ensures

pub returns-in-None : goal.returns-in-None
returns-in-None g c =
    let farm = c.args.farm.now in
    (inl (inl (none_solved g.F.Field.ops farm.pages farm.bound (sum_in c.args.tally.now farm.pages) c.args.gaps.now c.requires.solved c.in-None.ensures)), refl)
