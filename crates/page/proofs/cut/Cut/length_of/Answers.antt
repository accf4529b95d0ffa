use Rattle.std.proofs.Common.{◌∙◌}
use Rattle.page.proofs.Lengths.{last_length}
use Rattle.page.proofs.cut.Cut.length_of.Goals as goal

pub returns-clause-last : goal.returns-clause-last
returns-clause-last c from is =
    let cut = c.args.self.now in
    rw c.length_of_page.ensures (last_length cut.page_length cut.bytes c.args.page cut.filled from (is ∙ cut.counted))
