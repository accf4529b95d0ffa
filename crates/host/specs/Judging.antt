-- How a judgement ends for another program: a number, with a page, a station or a place beside it.
use Rattle.std.specs.Prelude.{◌≡◌, List, ◌⊎◌, length, ℕ, Result, Ok, Err}
use Rattle.field.specs.Field.{Ops}
use Rattle.refusal.specs.declared.Refusal.{Refusal}
use Rattle.refusal.specs.Numbers.{number, place}
use Rattle.refusal.specs.Rules.{Accepted}
use Rattle.tally.specs.declared.outcome.Outcome.{Outcome}
use Rattle.tally.specs.declared.outcome.Outcome.TheVariants.{Over, Split, Filled, Asks}
use Rattle.tally.specs.Judging.{judging}
use Rattle.host.specs.Ending.{Lent, Refuses}

abbrev pub status_of : Outcome → ℕ
status_of Filled = 0
status_of Over = 251
status_of (Split n) = 252
status_of (Asks k) = 253

-- the page that is split or the station that is to be asked; else nothing is written
abbrev pub told_place : ℕ → Outcome → ℕ
told_place before Filled = before
told_place before Over = before
told_place before (Split n) = n
told_place before (Asks k) = k

-- how a judgement is told
abbrev pub Told : Result Outcome Refusal → (before after status : ℕ) → Type 0
Told (Ok outcome) before after status = (status ≡ status_of outcome) × (after ≡ told_place before outcome)
Told (Err refusal) before after status = (status ≡ number refusal) × (after ≡ place refusal)

-- what weighing or settling says of a tally before and after, in a field
abbrev pub Says : Type 1
Says = Ops → (M N bound : ℕ) → (before after : List ℕ) → Outcome → Type 0

abbrev pub Judges : Says → (M N bound : ℕ) → Ops → (before after : Lent (List ℕ)) → (status : ℕ) → Type 0
Judges says M N bound f before after status =
    (Accepted (judging f M N bound (length before.filled))
    × ((outcome : Outcome) × says f M N bound before.filled after.filled outcome × (status ≡ status_of outcome)
    × (after.place ≡ told_place before.place outcome)))
    ⊎ Refuses (judging f M N bound (length before.filled)) before after status
