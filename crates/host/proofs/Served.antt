-- What serving gives is told to another program.
use Rattle.std.proofs.Common.{◌≡◌, ℕ, List, ◌++◌, length, drop, Ok, Err, inl, inr, refl, ap, ◌∙◌, subst}
use Rattle.field.specs.Field.{Ops}
use Rattle.refusal.specs.declared.Refusal.{Refusal}
use Rattle.refusal.specs.Numbers.{number, place}
use Rattle.refusal.specs.Rules.{Accepted}
use Rattle.page.specs.Pages.{page_count, cutting}
use Rattle.wire.specs.Reading.{reply_words}
use Rattle.station.specs.Kinds.{making_card, card_row, job_row}
use Rattle.station.specs.Serving.{answers, Served}
use Rattle.host.specs.Ending.{Lent, Counted, lent}
use Rattle.host.specs.Serving.{Serves, ServesCard, ServesJob}

abbrev counted : ℕ → List ℕ → Counted
counted count xs = record { words = xs; count = count }

module _ (f : Ops) (row : List ℕ) (station : ℕ) (request before after : List ℕ) (count old : ℕ) where
  pub told_reply : (n : ℕ) → Served f row station request before after (Ok n) → Serves f row station request (lent before count old) (lent after n old) 0
  told_reply n (inl (q, is, x)) = inl (q, is, inl (x.0, refl, (x.1, x.2 ∙ ap (λ m. reply_words q (answers f row q) ++ drop m before) x.1), refl))
  told_reply n (inr (e, is, none, x)) = absurd cc

  pub told_refusal : (e : Refusal) (told status : ℕ) → status ≡ number e → told ≡ place e
      → Served f row station request before after (Err e) → Serves f row station request (lent before count old) (lent after count told) status
  told_refusal e told status s t (inl (q, is, x)) = inl (q, is, inr (e, x.0, s, ap (counted count) x.1, t))
  told_refusal e told status s t (inr (r, is, garbled, kept)) =
      (let same : e ≡ r = cc in inr (r, garbled, s ∙ ap number same, ap (counted count) kept, t ∙ ap place same))

module _ (f : Ops) (station : ℕ) (request : List ℕ) (before after : Lent Counted) (status : ℕ) where
  pub told_card : (card words : List ℕ) → words ≡ card → Accepted (making_card f (length card))
      → Serves f (card_row f words) station request before after status → ServesCard f card station request before after status
  told_card card words same made x = inl (made, subst (λ w. Serves f (card_row f w) station request before after status) same x)

  pub told_job : (L M N : ℕ) (job bytes : List ℕ) → bytes ≡ job → M ≡ L → N ≡ page_count L (length job) → Accepted (cutting f L (length job))
      → Serves f (job_row f M N bytes) station request before after status → ServesJob f L job station request before after status
  told_job L M N job bytes same cut count made x =
      (let serves : ℕ → ℕ → List ℕ → Type 0 = λ l n b. Serves f (job_row f l n b) station request before after status in
      inl (made, subst (λ n. serves L n job) count (subst (λ l. serves l N job) cut (subst (serves M N) same x))))
