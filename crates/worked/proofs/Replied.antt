-- What station 4 of the farm with one bad copy replies when it is asked for sum 2.
use Rattle.std.proofs.Common.{◌≡◌, ℕ, suc, ◌-◌, List, [], ◌∷◌, map, ap, ◌∙◌}
use Rattle.std.specs.List.{range_with_len}
use Rattle.field.specs.Field.{Ops}
use Rattle.prime.specs.Prime.{prime}
use Rattle.wire.specs.declared.asked.Asked.{Asked}
use Rattle.wire.specs.declared.asked.Asked.TheVariants.{Sums}
use Rattle.wire.specs.declared.request.Request.{Request}
use Rattle.wire.specs.Words.{word}
use Rattle.wire.specs.Requests.{Holds, asked_kind}
use Rattle.wire.specs.Reading.{reply_words}
use Rattle.station.specs.Serving.{answer, answers}
use Rattle.desk.specs.Copies.{cards}
use Rattle.worked.specs.Checks.{one_bad}

-- the reply by the parts of the request
abbrev by_parts : Ops → List ℕ → (check station : ℕ) → Asked → (first last : ℕ) → List ℕ
by_parts f row check station asked first last =
    word 1 check ∷ word 2 station ∷ word (asked_kind asked) first ∷ word 5 last
    ∷ map (word 6) (map (answer f row asked) (range_with_len first (suc last - first)))

reply_parts : (f : Ops) (row : List ℕ) (q : Request) (check station : ℕ) (asked : Asked) (first last : ℕ) → Holds q check station asked first last
    → reply_words q (answers f row q) ≡ by_parts f row check station asked first last
reply_parts f row q check station asked first last (a, b, c, d, e) =
    ap (λ x. by_parts f row x q.station q.asked q.first q.last) a ∙ ap (λ x. by_parts f row check x q.asked q.first q.last) b
    ∙ ap (λ x. by_parts f row check station x q.first q.last) c ∙ ap (λ x. by_parts f row check station asked x q.last) d
    ∙ ap (by_parts f row check station asked first) e

pub replied : (q : Request) → Holds q 1 4 Sums 2 2
    → reply_words q (answers prime (cards prime 3 one_bad 4) q) ≡ 0x1000_0001 ∷ 0x2000_0004 ∷ 0x3000_0002 ∷ 0x5000_0002 ∷ 0x6000_108F ∷ []
replied q parts = reply_parts prime (cards prime 3 one_bad 4) q 1 4 Sums 2 2 parts
