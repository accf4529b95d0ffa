-- How another program's calls for one code end: the signature of one page of a job, or one sum of a row.
use Rattle.std.specs.Prelude.{◌≡◌, ℕ, List, ◌++◌, length}
use Rattle.field.specs.Field.{Ops}
use Rattle.field.specs.Sums.{entry, power_sum}
use Rattle.refusal.specs.Rules.{Rule}
use Rattle.page.specs.Pages.{page_count, page_signature, cutting}
use Rattle.station.specs.Kinds.{making_card, card_row}
use Rattle.station.specs.Questions.{asking_page, asking_sum}
use Rattle.host.specs.Ending.{Lent, Fills}

-- a code that is to be written, and the place of a refusal
abbrev pub lent_code : (code place : ℕ) → Lent ℕ
lent_code code place = record { filled = code; place = place }

-- how a job is cut, then a page that it has not
abbrev pub signing_page : Ops → (L bytes page : ℕ) → List Rule
signing_page f L bytes page = cutting f L bytes ++ asking_page (page_count L bytes) page

abbrev pub SignsPage : Ops → (L : ℕ) (job : List ℕ) (page : ℕ) → (before after : Lent ℕ) → (status : ℕ) → Type 0
SignsPage f L job page before after status =
    Fills (signing_page f L (length job) page) (λ old new. new ≡ page_signature f L job page) before after status

-- a number of words that no job has, then a sum that no station tells
abbrev pub summing_row : Ops → (words j : ℕ) → List Rule
summing_row f words j = making_card f words ++ asking_sum j

abbrev pub row_sum : Ops → List ℕ → (j : ℕ) → ℕ
row_sum f row j = power_sum f (length row) (entry row) j

-- sum j of the codes that the row's words count as
abbrev pub SumsRow : Ops → (row : List ℕ) (j : ℕ) → (before after : Lent ℕ) → (status : ℕ) → Type 0
SumsRow f row j before after status =
    Fills (summing_row f (length row) j) (λ old new. new ≡ row_sum f (card_row f row) j) before after status
