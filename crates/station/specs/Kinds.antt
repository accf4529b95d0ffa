-- What the kinds of station mean, and what is refused when one is made.
use Rattle.std.specs.Prelude.{ℕ, suc, ◌%◌, List, [], ◌∷◌, map}
use Rattle.std.specs.List.{range_with_len}
use Rattle.field.specs.Field.{Ops, page_limit}
use Rattle.page.specs.Pages.{page_signature}
use Rattle.refusal.specs.Rules.{Rule, Within, unless}

-- a card has as many words as a job may have pages
abbrev pub making_card : Ops → ℕ → List Rule
making_card f words = unless (Within 1 (page_limit f) words) 1 3 ∷ []

-- the codes that a card's words count as
abbrev pub card_row : Ops → List ℕ → List ℕ
card_row f words = map (λ word. word % f.size) words

-- the signatures of the pages 1 to N of a job, L bytes each
abbrev pub job_row : Ops → ℕ → ℕ → List ℕ → List ℕ
job_row f L N job = map (λ k. page_signature f L job (suc k)) (range_with_len 0 N)
