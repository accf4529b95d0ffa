-- A judgement that is told is one for another program.
use Rattle.std.proofs.Common.{◌≡◌, ℕ, List, length, Result, Ok, Err, inl, inr}
use Rattle.std.specs.Result.{MatchResult}
use Rattle.refusal.specs.declared.Refusal.{Refusal}
use Rattle.refusal.specs.Rules.{Accepted, Refused}
use Rattle.fields.specs.declared.FieldName.{FieldName}
use Rattle.fields.specs.Names.{ops_of, number_of}
use Rattle.tally.specs.declared.outcome.Outcome.{Outcome}
use Rattle.tally.specs.Judging.{judging}
use Rattle.host.specs.Ending.{EndsIn}
use Rattle.host.specs.Judging.{Says, Told, Judges}

module _ (says : Says) (name : FieldName) (M N bound : ℕ) (tally after : List ℕ) (place told status : ℕ) where
  judged : (r : Result Outcome Refusal)
      → MatchResult r (λ o. Accepted (judging (ops_of name) M N bound (length tally)) × says (ops_of name) M N bound tally after o) (λ e. Refused (judging (ops_of name) M N bound (length tally)) e × (after ≡ tally))
      → Told r place told status → Judges says M N bound (ops_of name) (record { filled = tally; place = place }) (record { filled = after; place = told }) status
  judged (Ok o) x t = inl (x.0, (o, x.1, t.0, t.1))
  judged (Err e) x t = inr (e, x.0, t.0, x.1, t.1)

  pub judged_in : (number : ℕ) → number ≡ number_of name → (r : Result Outcome Refusal)
      → MatchResult r (λ o. Accepted (judging (ops_of name) M N bound (length tally)) × says (ops_of name) M N bound tally after o) (λ e. Refused (judging (ops_of name) M N bound (length tally)) e × (after ≡ tally))
      → Told r place told status → EndsIn number (Judges says M N bound) (record { filled = tally; place = place }) (record { filled = after; place = told }) status
  judged_in number is r x t = inl (name, is, judged r x t)
