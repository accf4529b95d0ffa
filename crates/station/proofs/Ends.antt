-- What is served is read back.
use Rattle.std.proofs.Common.{ℕ, ◌+◌, ◌<◌, List, length, get_or, arith}
use Rattle.std.proofs.lemmas.List.FromFn.{length-map-range_with_len, get_or-map-range_with_len}
use Rattle.field.specs.Field.{Ops, Laws}
use Rattle.field.specs.Sums.{entry}
use Rattle.field.proofs.Laws.{total_code}
use Rattle.wire.specs.declared.asked.Asked.{Asked}
use Rattle.wire.specs.declared.asked.Asked.TheVariants.{Sums, Signatures}
use Rattle.wire.specs.declared.request.Request.{Request}
use Rattle.wire.specs.Requests.{values_due}
use Rattle.wire.proofs.ReadBack.{replies_read_back}
use Rattle.station.specs.Serving.{answer, answers, EndsAgree}

module _ (f : Ops) (l : Laws f) (row : List ℕ) (codes : (k : ℕ) → entry row k < f.size) where
  answer_code : (asked : Asked) (i : ℕ) → answer f row asked i < f.size
  answer_code Sums i = total_code l (length row) _
  answer_code Signatures i = codes i

  answers_code : (q : Request) (k : ℕ) → k < length (answers f row q) → get_or (answers f row q) k 0 < f.size
  answers_code q k h =
      let inside : k < values_due q = omega (arith, length-map-range_with_len (answer f row q.asked) q.first (values_due q)) in
      rw (get_or-map-range_with_len (answer f row q.asked) q.first (values_due q) k (q.first + k) 0 inside (omega arith)) (answer_code q.asked (q.first + k))

pub ends_agree : EndsAgree
ends_agree f l row codes q =
    replies_read_back f l q (answers f row q) (length-map-range_with_len (answer f row q.asked) q.first (values_due q)) (answers_code f l row codes q)
