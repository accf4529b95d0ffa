-- How another program's calls to serve a request end, from a card and from a job.
use Rattle.std.specs.Prelude.{◌≡◌, ◌+◌, ◌⊎◌, ℕ, List, length}
use Rattle.field.specs.Field.{Ops}
use Rattle.refusal.specs.Rules.{Accepted}
use Rattle.page.specs.Pages.{page_count, cutting}
use Rattle.wire.specs.declared.request.Request.{Request}
use Rattle.wire.specs.Requests.{request_words, values_due}
use Rattle.wire.specs.Reading.{reading_request, reply_words}
use Rattle.station.specs.Kinds.{making_card, card_row, job_row}
use Rattle.station.specs.Serving.{serving, answers}
use Rattle.host.specs.Ending.{Lent, Counted, Front, Fills, Refuses}

-- from a row: the words are a request's, or garbled
abbrev pub Serves : Ops → (row : List ℕ) (station : ℕ) (request : List ℕ) → (before after : Lent Counted) → (status : ℕ) → Type 0
Serves f row station request before after status =
    ((q : Request) × (request ≡ request_words q)
    × Fills (serving row station q (length before.filled.words)) (Front (4 + values_due q) (reply_words q (answers f row q))) before after status)
    ⊎ Refuses (reading_request request) before after status

abbrev pub ServesCard : Ops → (card : List ℕ) (station : ℕ) (request : List ℕ) → (before after : Lent Counted) → (status : ℕ) → Type 0
ServesCard f card station request before after status =
    (Accepted (making_card f (length card)) × Serves f (card_row f card) station request before after status)
    ⊎ Refuses (making_card f (length card)) before after status

abbrev pub ServesJob : Ops → (L : ℕ) (job : List ℕ) (station : ℕ) (request : List ℕ) → (before after : Lent Counted) → (status : ℕ) → Type 0
ServesJob f L job station request before after status =
    (Accepted (cutting f L (length job)) × Serves f (job_row f L (page_count L (length job)) job) station request before after status)
    ⊎ Refuses (cutting f L (length job)) before after status
