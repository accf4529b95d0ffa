-- Requests and the words that carry them.
use Rattle.std.specs.Prelude.{◌≡◌, ℕ, suc, ◌-◌, ◌<◌, List, [], ◌∷◌}
use Rattle.field.specs.declared.limits.TheConstants.{VALUE_LIMIT}
use Rattle.wire.specs.Words.{word}
use Rattle.wire.specs.declared.asked.Asked.{Asked}
use Rattle.wire.specs.declared.asked.Asked.TheVariants.{Sums, Signatures}
use Rattle.wire.specs.declared.request.Request.{Request}

-- numbers that a word's value can hold
abbrev pub Narrow : (check station first last : ℕ) → Type 0
Narrow check station first last = (check < VALUE_LIMIT) × (station < VALUE_LIMIT) × (first < VALUE_LIMIT) × (last < VALUE_LIMIT)

-- the kind of the word that has the first index
abbrev pub asked_kind : Asked → ℕ
asked_kind Sums = 3
asked_kind Signatures = 4

abbrev pub request_words : Request → List ℕ
request_words q =
    word 1 q.check ∷ word 2 q.station ∷ word (asked_kind q.asked) q.first ∷ word 5 q.last ∷ []

-- how many values a request asks for
abbrev pub values_due : Request → ℕ
values_due q = suc q.last - q.first

-- a request with these parts
abbrev pub Holds : Request → (check station : ℕ) → Asked → (first last : ℕ) → Type 0
Holds q check station asked first last =
    (q.check ≡ check) × (q.station ≡ station) × (q.asked ≡ asked) × (q.first ≡ first) × (q.last ≡ last)

-- two requests that ask the same
abbrev pub Same : Request → Request → Type 0
Same p q = Holds p q.check q.station q.asked q.first q.last
