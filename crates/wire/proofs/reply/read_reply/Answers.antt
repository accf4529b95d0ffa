use Rattle.std.proofs.Common.{ℕ, List, sym, refl, subst, inl}
use Rattle.std.proofs.lemmas.List.{take_rest}
use Rattle.wire.specs.Reading.{Reply}
use Rattle.wire.proofs.Replies.{whole_clear, none_foreign, reply}
use Rattle.wire.proofs.reply.read_reply.Goals as goal

pub returns-in-Some : goal.returns-in-Some
returns-in-Some g c =
    let found = simp (c.SIZE.ensures, g.met.F.Field.named.size_is, c.value_count.ensures) at c.in-Some.ensures in
    inl (refl, found)

pub returns-in-None : goal.returns-in-None
returns-in-None g c =
    let f = g.F.Field.ops in
    let q = c.args.request.now in
    let words = c.args.words.now in
    let whole = simp (c.SIZE.ensures, g.met.F.Field.named.size_is, c.value_count.ensures) at c.in_default.ensures in
    let same = c.in-None.ensures in
    let P : List ℕ → Type 0 = Reply f q words in
    ((whole_clear whole, (none_foreign f q words whole same, tt)), subst P (sym (take_rest words 4)) (reply f q words whole same))
