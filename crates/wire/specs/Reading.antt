-- Reading requests and replies: what is garbled, what is foreign, and what is read.
use Rattle.std.specs.Prelude.{◌≡◌, ℕ, ◌+◌, ◌<◌, ◌≤◌, ◌⊎◌, List, [], ◌∷◌, ◌++◌, map, length, ◌≢◌, slice_index}
use Rattle.field.specs.Field.{Ops, Laws}
use Rattle.field.specs.Sums.{entry}
use Rattle.refusal.specs.Rules.{Rule, lowest, Accepted}
use Rattle.wire.specs.Words.{word, kind_of, value_of}
use Rattle.wire.specs.Requests.{request_words, values_due, Same}
use Rattle.wire.specs.declared.request.Request.{Request}

-- a word that may stand at a position, from 1: the header's kinds, then values below the limit
abbrev pub WellFormed : ℕ → ℕ → ℕ → Type 0
WellFormed limit position w =
    ((position ≡ 1) × (kind_of w ≡ 1))
    ⊎ (((position ≡ 2) × (kind_of w ≡ 2))
    ⊎ (((position ≡ 3) × ((kind_of w ≡ 3) ⊎ (kind_of w ≡ 4)))
    ⊎ (((position ≡ 4) × (kind_of w ≡ 5))
    ⊎ ((5 ≤ position) × (kind_of w ≡ 6) × (value_of w < limit)))))

-- of a header and so many values: a word is missing, wrong or surplus at this position
abbrev pub GarbledAt : ℕ → ℕ → List ℕ → ℕ → Type 0
GarbledAt limit values words position =
    ((position ≤ 4 + values) × ((length words < position) ⊎ (WellFormed limit position (entry words position) → ⊥)))
    ⊎ ((4 + values < position) × (position ≤ length words))

-- a header and so many values, each word as it may stand
pub record Whole (limit values : ℕ) (words : List ℕ) : Type 0 where
  pub count : length words ≡ 4 + values
  pub each : (position : ℕ) → 1 ≤ position → position ≤ length words → WellFormed limit position (entry words position)

-- the header word at this position is not the request's
abbrev pub ForeignAt : Request → List ℕ → ℕ → Type 0
ForeignAt q words position = (position ≤ 4) × (entry words position ≢ entry (request_words q) position)

-- a request has no values: 8 at the first garbled position
abbrev pub reading_request : List ℕ → List Rule
reading_request words = lowest (GarbledAt 0 0 words) 8 ∷ []

-- a reply to a request: 8 at the first garbled position, then 9 at the first foreign one
abbrev pub reading_reply : Ops → Request → List ℕ → List Rule
reading_reply f q words = lowest (GarbledAt f.size (values_due q) words) 8 ∷ lowest (ForeignAt q words) 9 ∷ []

-- the words are the request's header, then so many value words as it asks for, each with a code
pub record Reply (f : Ops) (q : Request) (words values : List ℕ) : Type 0 where
  pub parts : words ≡ request_words q ++ values
  pub count : length values ≡ values_due q
  pub kinds : (k : ℕ) → k < length values → kind_of (slice_index values k) ≡ 6
  pub codes : (k : ℕ) → k < length values → value_of (slice_index values k) < f.size

-- the reply that carries these values
abbrev pub reply_words : Request → List ℕ → List ℕ
reply_words q values = request_words q ++ map (word 6) values

-- Every request is read back as it was written.
abbrev pub RequestsReadBack : Type 0
RequestsReadBack =
    (q : Request) → Accepted (reading_request (request_words q)) × ((p : Request) → request_words p ≡ request_words q → Same p q)

-- Every reply with as many codes as were asked for is accepted, and its values are read back as they were written.
abbrev pub RepliesReadBack : Type 0
RepliesReadBack =
    (f : Ops) → Laws f → (q : Request) (values : List ℕ) → length values ≡ values_due q → ((k : ℕ) → k < length values → slice_index values k < f.size) →
    Accepted (reading_reply f q (reply_words q values)) × Reply f q (reply_words q values) (map (word 6) values) × (map value_of (map (word 6) values) ≡ values)
