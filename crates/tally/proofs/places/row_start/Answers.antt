use Rattle.std.proofs.Common.{◌+◌, ◌-◌, ◌*◌, ◌^◌, min, ap, ◌∙◌}
use Rattle.tally.proofs.Capped.{capped_product}
use Rattle.tally.proofs.places.row_start.Goals as goal

pub returns : goal.returns
returns c =
    c.saturating_mul.ensures
    ∙ ap (λ a. min (a * c.saturating_add.result) (2 ^ 64 - 1)) c.saturating_sub.ensures
    ∙ capped_product (c.args.station - 1) c.saturating_add.result (c.args.pages + 128) (2 ^ 64 - 1) c.saturating_add.ensures
