-- A steady farm: while a check lasts no station's pages change, every accepted reply is what its station answers, and nothing else writes the tally.
use Rattle.std.specs.Prelude.{◌≡◌, ℕ, List, [], ◌∷◌, length, Ok}
use Rattle.field.specs.Field.{Ops}
use Rattle.field.specs.Sums.{entry, power_sum}
use Rattle.algebra.specs.Vectors.{Codes}
use Rattle.wire.specs.Reading.{reply_words}
use Rattle.station.specs.Serving.{answers}
use Rattle.scheme.specs.Farm.{Table, Station}
use Rattle.calls.specs.Runs.{Call, slip, take, return, weigh, settle, list}

-- M stations hold N pages, and what they mean by them are codes: holds s is the row of station s
pub record FarmHolds (f : Ops) (M N : ℕ) (holds : ℕ → List ℕ) : Type 0 where
  pub pages : (s : ℕ) → Station M s → length (holds s) ≡ N
  pub codes : (s : ℕ) → Station M s → Codes f N (entry (holds s))

-- the signature of page n at station s
abbrev pub copies : (ℕ → List ℕ) → Table
copies holds s n = entry (holds s) n

-- sum j of station s
abbrev pub sums : Ops → ℕ → (ℕ → List ℕ) → Table
sums f N holds s j = power_sum f N (copies holds s) j

-- The calls, the newest first, share one tally: each finds it as the one before left it, from opening on. last is the tally after the newest call.
abbrev pub OneTally : (tally : List ℕ) → List Call → (last : List ℕ) → Type 0
OneTally tally [] last = last ≡ tally
OneTally tally (slip s q r q' ∷ ks) last = OneTally tally ks last
OneTally tally (take p w t r t' ∷ ks) last = (last ≡ t') × OneTally tally ks t
OneTally tally (return p r ∷ ks) last = OneTally tally ks last
OneTally tally (weigh t t' ∷ ks) last = (last ≡ t') × OneTally tally ks t
OneTally tally (settle t t' ∷ ks) last = (last ≡ t') × OneTally tally ks t
OneTally tally (list s t o r o' ∷ ks) last = (last ≡ t) × OneTally tally ks t

-- an accepted reply is what the station that its slip names answers to the request
abbrev pub Yields : Ops → (ℕ → List ℕ) → Call → Type 0
Yields f holds (take p w t (Ok u) t') = w ≡ reply_words p.request (answers f (holds p.request.station) p.request)
Yields f holds _ = Unit {0}

abbrev pub AllYielded : Ops → (ℕ → List ℕ) → List Call → Type 0
AllYielded f holds [] = Unit {0}
AllYielded f holds (c ∷ ks) = Yields f holds c × AllYielded f holds ks

-- a steady farm: the own copy is the row of station 1, the calls share one tally, and the stations yield every accepted reply
abbrev pub Steady : Ops → (ℕ → List ℕ) → (own tally : List ℕ) → List Call → (last : List ℕ) → Type 0
Steady f holds own tally ks last = (own ≡ holds 1) × OneTally tally ks last × AllYielded f holds ks
