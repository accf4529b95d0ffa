use Rattle.std.proofs.Common.{rules}
use Rattle.commands.proofs.opening.Open.read.Goals as goal

pub returns : goal.returns
returns c =
    let number = c.in_ok-number.ensures in
    let stations = c.in_ok-number-2.ensures in
    let pages = c.in_ok-number-3.ensures in
    let bound = c.in_ok-number-4.ensures in (
      c.name.new.self.words.items,
      c.number-4.new.self.words.items,
      c.scheme.new.self.words.items,
      search rules,
      (
        c.number.new.self.words.items,
        c.number-2.new.self.words.items,
        c.number-3.new.self.words.items,
        (number.0, number.1, number.2.0.1),
        (stations.0, stations.1, stations.2.0.1),
        (pages.0, pages.1, pages.2.0.1),
        (bound.0, bound.1, bound.2.0.1),
      ),
      c.in_ok-scheme.ensures,
      search rules,
    )
