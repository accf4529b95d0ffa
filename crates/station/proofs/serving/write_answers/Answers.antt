use Rattle.std.proofs.Common.{◌≡◌, ℕ, ◌+◌, ◌<◌, List, map, length, get_or, sym, ap, ◌∙◌, arith}
use Rattle.std.proofs.lemmas.Grind.{same_number_lists}
use Rattle.std.proofs.lemmas.List.{length-map, get_or-map}
use Rattle.std.proofs.lemmas.List.FromFn.{length-map-range_with_len, get_or-map-range_with_len}
use Rattle.field.specs.Field.{Ops}
use Rattle.wire.specs.declared.request.Request.{Request}
use Rattle.wire.specs.Requests.{values_due}
use Rattle.wire.specs.Words.{word}
use Rattle.station.specs.Serving.{answer, answers}
use Rattle.station.proofs.serving.write_answers.Goals as goal

answered : (f : Ops) (row : List ℕ) (q : Request) (values : List ℕ) → length values ≡ values_due q →
    ((i : ℕ) → i < length values → get_or values i 0 ≡ word 6 (answer f row q.asked (q.first + i))) → values ≡ map (word 6) (answers f row q)
answered f row q values count each =
    let due = answers f row q in
    let many : length due ≡ values_due q = length-map-range_with_len (answer f row q.asked) q.first (values_due q) in
    same_number_lists values (map (word 6) due) (count ∙ sym (length-map due (word 6) ∙ many))
    (λ i h. each i h
    ∙ ap (word 6) (sym (get_or-map-range_with_len (answer f row q.asked) q.first (values_due q) i (q.first + i) 0 (omega arith) (omega arith)))
    ∙ sym (get_or-map (word 6) due i 0 0 (omega arith)))

pub returns : goal.returns
returns g c =
    let values = c.loop-k.values in
    answered g.F.Field.ops (g.S.Station.row c.args.station.now) c.args.request.now values (omega arith) (λ i h. c.loop-k.invariant i (omega arith))
