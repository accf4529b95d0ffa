-- What a shelf answers of a page is the page's signature.
use Rattle.std.proofs.Common.{◌≡◌, ℕ, suc, ◌-◌, ◌<◌, List, length, Result, Ok, Err, inr, ap, subst, ◌∙◌, arith}
use Rattle.std.specs.Result.{MatchResult}
use Rattle.std.proofs.lemmas.List.FromFn.{length-map-range_with_len, get_or-map-range_with_len}
use Rattle.field.specs.Field.{Ops}
use Rattle.field.specs.Sums.{entry}
use Rattle.refusal.specs.declared.Refusal.{Refusal}
use Rattle.refusal.specs.Rules.{Within, Accepted, Refused}
use Rattle.page.specs.Pages.{page_count, page_signature, cutting}
use Rattle.station.specs.Kinds.{job_row}
use Rattle.station.specs.Questions.{asking_page}
use Rattle.host.specs.Single.{signing_page}

-- an answer of a station with this row
abbrev Answers : Ops → (row : List ℕ) (page : ℕ) → Result ℕ Refusal → Type 0
Answers f row page answer =
    MatchResult answer (λ code. Accepted (asking_page (length row) page) × (code ≡ entry row page) × (code < f.size)) (Refused (asking_page (length row) page))

module _ (f : Ops) (L : ℕ) (job : List ℕ) (page : ℕ) where
  abbrev signature_of : ℕ → ℕ
  signature_of k = page_signature f L job (suc k)

  row_length : (N : ℕ) → length (job_row f L N job) ≡ N
  row_length N = length-map-range_with_len signature_of 0 N

  row_entry : (N : ℕ) → Within 1 N page → entry (job_row f L N job) page ≡ page_signature f L job page
  row_entry N inside =
      (let low : page - 1 < N = omega (arith, inside.0, inside.1) in
      let is : suc (page - 1) ≡ page = omega (arith, inside.0) in
      get_or-map-range_with_len signature_of 0 N (page - 1) (page - 1) 0 low (omega arith) ∙ ap (page_signature f L job) is)

  told : Accepted (cutting f L (length job)) → (answer : Result ℕ Refusal) → Answers f (job_row f L (page_count L (length job)) job) page answer
      → MatchResult answer (λ code. Accepted (signing_page f L (length job) page) × (code ≡ page_signature f L job page)) (Refused (signing_page f L (length job) page))
  told made (Ok code) x =
      (let inside : Within 1 (page_count L (length job)) page = subst (λ n. Within 1 n page) (row_length (page_count L (length job))) x.0.0 in
      ((made.0, (made.1.0, (inside, tt))), x.1 ∙ row_entry (page_count L (length job)) inside))
  told made (Err e) x =
      inr (made.0, inr (made.1.0, subst (λ n. Refused (asking_page n page) e) (row_length (page_count L (length job))) x))

  pub told_page : (K N : ℕ) (bytes : List ℕ) → bytes ≡ job → K ≡ L → N ≡ page_count L (length job) → Accepted (cutting f L (length job))
      → (answer : Result ℕ Refusal) → Answers f (job_row f K N bytes) page answer
      → MatchResult answer (λ code. Accepted (signing_page f L (length job) page) × (code ≡ page_signature f L job page)) (Refused (signing_page f L (length job) page))
  told_page K N bytes same cut count made answer x =
      (let answers : ℕ → ℕ → List ℕ → Type 0 = λ l n b. Answers f (job_row f l n b) page answer in
      told made answer (subst (λ n. answers L n job) count (subst (λ l. answers l N job) cut (subst (answers K N) same x))))
