-- What a station with a row of signatures answers to a request.
use Rattle.std.specs.Prelude.{◌≡◌, ℕ, ◌+◌, ◌<◌, ◌≤◌, ◌⊎◌, List, [], ◌∷◌, ◌++◌, map, length, drop, Ok, Err, Result}
use Rattle.std.specs.List.{range_with_len}
use Rattle.field.specs.Field.{Ops, Laws}
use Rattle.field.specs.Sums.{entry, power_sum}
use Rattle.field.specs.declared.limits.TheConstants.{SUM_LIMIT}
use Rattle.refusal.specs.declared.Refusal.{Refusal}
use Rattle.refusal.specs.Rules.{Rule, Within, unless, Accepted, Refused}
use Rattle.wire.specs.declared.asked.Asked.{Asked}
use Rattle.wire.specs.declared.asked.Asked.TheVariants.{Sums, Signatures}
use Rattle.wire.specs.declared.request.Request.{Request}
use Rattle.wire.specs.Words.{word, value_of}
use Rattle.wire.specs.Requests.{request_words, values_due}
use Rattle.wire.specs.Reading.{reading_request, reading_reply, Reply, reply_words}

-- the last index that may be asked for
abbrev pub index_limit : Asked → List ℕ → ℕ
index_limit Sums row = SUM_LIMIT
index_limit Signatures row = length row

abbrev pub answer : Ops → List ℕ → Asked → ℕ → ℕ
answer f row Sums j = power_sum f (length row) (entry row) j
answer f row Signatures n = entry row n

-- the answers from the first index to the last
abbrev pub answers : Ops → List ℕ → Request → List ℕ
answers f row q = map (answer f row q.asked) (range_with_len q.first (values_due q))

-- both indices inside, the first not above the last
abbrev pub InRange : List ℕ → Request → Type 0
InRange row q = Within 1 q.last q.first × (q.last ≤ index_limit q.asked row)

-- what is refused of a request that is not garbled: another station, an index outside, a reply buffer that is too short
abbrev pub serving : List ℕ → ℕ → Request → ℕ → List Rule
serving row number q room =
    unless (q.station ≡ number) 9 2 ∷ unless (InRange row q) 11 0 ∷ unless (4 + values_due q ≤ room) 2 2 ∷ []

-- what a request gives, and what the reply buffer then holds
abbrev pub ServedRequest : Ops → List ℕ → ℕ → Request → (before after : List ℕ) → Result ℕ Refusal → Type 0
ServedRequest f row number q before after (Ok count) =
    Accepted (serving row number q (length before)) × (count ≡ 4 + values_due q) × (after ≡ reply_words q (answers f row q) ++ drop count before)
ServedRequest f row number q before after (Err refusal) = Refused (serving row number q (length before)) refusal × (after ≡ before)

-- what words give: they are a request's, or garbled
abbrev pub Served : Ops → List ℕ → ℕ → (words before after : List ℕ) → Result ℕ Refusal → Type 0
Served f row number words before after result =
    ((q : Request) × (words ≡ request_words q) × ServedRequest f row number q before after result)
    ⊎ ((refusal : Refusal) × (result ≡ Err refusal) × Refused (reading_request words) refusal × (after ≡ before))

-- What is served to a request, read against that request, is accepted and gives the answers.
abbrev pub EndsMeet : Ops → List ℕ → Request → Type 0
EndsMeet f row q =
    Accepted (reading_reply f q (reply_words q (answers f row q)))
    × Reply f q (reply_words q (answers f row q)) (map (word 6) (answers f row q))
    × (map value_of (map (word 6) (answers f row q)) ≡ answers f row q)

-- So it is for every row of codes.
abbrev pub EndsAgree : Type 0
EndsAgree = (f : Ops) → Laws f → (row : List ℕ) → ((k : ℕ) → entry row k < f.size) → (q : Request) → EndsMeet f row q
