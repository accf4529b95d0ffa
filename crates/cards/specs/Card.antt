-- The text of a signature card: a line `page signature` for each page, then `pages N`; or the line of a refusal.
use Rattle.std.specs.Prelude.{◌≡◌, ℕ, zero, suc, List, [], ◌++◌, length, codes, decimal, Some, None, Option}
use Rattle.field.specs.Field.{Ops}
use Rattle.refusal.specs.declared.Refusal.{Refusal}
use Rattle.refusal.specs.Rules.{Refused, Accepted}
use Rattle.page.specs.Pages.{page_count, page_signature, cutting}
use Rattle.lines.specs.Text.{refusal_line}

abbrev pub page_line : ℕ → ℕ → List ℕ
page_line page signature = decimal page ++ (codes " " ++ (decimal signature ++ codes "\n"))

-- the lines of the pages 1 to n, by each page's signature
abbrev pub page_lines : (ℕ → ℕ) → ℕ → List ℕ
page_lines signature-of zero = []
page_lines signature-of (suc n) = page_lines signature-of n ++ page_line (suc n) (signature-of (suc n))

abbrev pub last_line : ℕ → List ℕ
last_line n = codes "pages " ++ (decimal n ++ codes "\n")

abbrev pub card : Ops → ℕ → List ℕ → List ℕ
card f L job = page_lines (page_signature f L job) (page_count L (length job)) ++ last_line (page_count L (length job))

-- what is written for a job: its card, or the line of the refusal that says why it has none
abbrev pub CardText : Ops → ℕ → List ℕ → Option Refusal → List ℕ → Type 0
CardText f L job None out = Accepted (cutting f L (length job)) × (out ≡ card f L job)
CardText f L job (Some refusal) out = Refused (cutting f L (length job)) refusal × (out ≡ refusal_line refusal)
