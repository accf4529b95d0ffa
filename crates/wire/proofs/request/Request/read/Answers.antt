use Rattle.std.proofs.Common.{◌≡◌, get_or, sym, ap, ◌∙◌}
use Rattle.wire.specs.Words.{kind_of}
use Rattle.wire.specs.Requests.{asked_kind}
use Rattle.wire.proofs.Replies.{whole_clear}
use Rattle.wire.proofs.Written.{third_kind, four_words}
use Rattle.wire.proofs.request.Request.read.Goals as goal
use Rattle.wire.proofs.request.Request.read.Goals.{then-has_kind, else-has_kind}

pub returns : goal.returns
returns c =
    let words = c.args.words.now in
    let whole = c.in_default.ensures in
    let has = c.has_kind.ensures in
    let kind : kind_of (get_or words 2 0) ≡ asked_kind c.if-has_kind.asked =
    elim c.if-has_kind.branch [
      | then-has_kind w ↦ has.0 w.if-has_kind.true ∙ sym (ap asked_kind w.asked-is)
      | else-has_kind w ↦ third_kind words whole (λ sums. let yes = has.1 sums in let no = w.if-has_kind.false in cc) ∙ sym (ap asked_kind w.asked-is)
    ] in
    let all = four_words words whole (asked_kind c.if-has_kind.asked) kind in
    ((whole_clear whole, tt), cc)
