-- How another program's calls to sign a job and to sum a card end.
use Rattle.std.specs.Prelude.{◌≡◌, ◌≤◌, ℕ, suc, List, [], ◌∷◌, ◌++◌, map, length}
use Rattle.std.specs.List.{range_with_len}
use Rattle.field.specs.Field.{Ops}
use Rattle.field.specs.Sums.{entry, power_sum}
use Rattle.refusal.specs.Rules.{Rule, unless}
use Rattle.page.specs.Pages.{page_count, cutting}
use Rattle.station.specs.Kinds.{making_card, card_row, job_row}
use Rattle.host.specs.Ending.{Lent, Counted, Front, Fills}

-- how a job is cut, then a card buffer that is too short
abbrev pub signing : Ops → (L bytes room : ℕ) → List Rule
signing f L bytes room = cutting f L bytes ++ (unless (page_count L bytes ≤ room) 2 2 ∷ [])

-- a signature for each page of the job
abbrev pub Signs : Ops → (L : ℕ) (job : List ℕ) → (before after : Lent Counted) → (status : ℕ) → Type 0
Signs f L job before after status =
    Fills (signing f L (length job) (length before.filled.words))
    (Front (page_count L (length job)) (job_row f L (page_count L (length job)) job)) before after status

-- a number of words that no job has, then more sums than a station tells
abbrev pub summing : Ops → (words sums : ℕ) → List Rule
summing f words sums = making_card f words ++ (unless (sums ≤ 128) 11 0 ∷ [])

-- the sums 1 to count of a row
abbrev pub row_sums : Ops → List ℕ → (count : ℕ) → List ℕ
row_sums f row count = map (λ k. power_sum f (length row) (entry row) (suc k)) (range_with_len 0 count)

-- the sums of the codes that a card's words count as
abbrev pub SumsUp : Ops → (card : List ℕ) → (before after : Lent (List ℕ)) → (status : ℕ) → Type 0
SumsUp f card before after status =
    Fills (summing f (length card) (length before.filled)) (λ old new. new ≡ row_sums f (card_row f card) (length old)) before after status
