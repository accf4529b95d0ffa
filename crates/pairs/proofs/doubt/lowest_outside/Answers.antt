use Rattle.std.proofs.Common.{◌≡◌, ℕ, true, false, rules}
use borrow.Author.Tests.{tests}
use Rattle.scheme.specs.Pairs.{among}
use Rattle.algebra.proofs.Ranges.{first_from}
use Rattle.pairs.proofs.Outside.{outside}
use Rattle.pairs.proofs.doubt.lowest_outside.Goals as goal

pub returns : goal.returns
returns c a b d =
    let is = λ (s : ℕ). among c.args.x c.args.y c.args.z s in
    outside c.args.x c.args.y c.args.z a b d c.find.result
    (first_from _ _ 1 3 (λ s. is s ≡ false) (λ s. is s ≡ true) c.new.ensures.start c.new.ensures.end c.new.ensures.exhausted c.find.result c.find.ensures.ran
    (λ x q p. search (rules, tests)) (λ x q p. search (rules, tests))) c.unwrap_or.result c.unwrap_or.ensures
