-- The difference of row 1 and the third, as it is solved anew.
use Rattle.std.proofs.Common.{◌≡◌, ℕ, true, false, is_some, Some, None, Option, List, subst}
use Rattle.std.specs.Option.{unwrap_or}
use Rattle.field.specs.Field.{Ops}
use Rattle.solve.specs.declared.Entry.{Entry}
use Rattle.scheme.specs.Differences.{gap}
use Rattle.scheme.specs.Farm.{Table}
use Rattle.scheme.specs.Three.{FromFirst}
use Rattle.scheme.specs.Askings.{all_sums}
use Rattle.solve.specs.Answer.{code_at, Entries}
use Rattle.tally.specs.Rows.{sum_in}
use Rattle.pairs.specs.Difference.{AnsweredBy}

module _ (f : Ops) (N bound : ℕ) (T : Table) (k : ℕ) where
  abbrev pub Anew : Option ℕ → List Entry → Type 0
  Anew = AnsweredBy f N bound (all_sums N bound) (gap f T 1 k)

  pub anew_none : (o : Option ℕ) (list : List Entry) → Anew o list → is_some o ≡ false → (d : ℕ → ℕ) → ¬ FromFirst f N bound T k d
  anew_none (Some m) list a e = absurd (cc)
  anew_none None list a e = a

  pub anew_some : (o : Option ℕ) (list : List Entry) → Anew o list → is_some o ≡ true → FromFirst f N bound T k (code_at list) × Entries N (unwrap_or o 0) list
  anew_some (Some m) list a e = (a.solves, a.listed)
  anew_some None list a e = absurd (cc)

-- as the call tells it
pub told : (f : Ops) (N bound J pages k third : ℕ) (words tally : List ℕ) (o : Option ℕ) (list : List Entry) → AnsweredBy f pages bound J (gap f (sum_in words pages) 1 k) o list →
    words ≡ tally → pages ≡ N → J ≡ all_sums N bound → k ≡ third → Anew f N bound (sum_in tally N) third o list
told f N bound J pages k third words tally o list a same_words same_pages sums is =
    subst (λ (k : ℕ). Anew f N bound (sum_in tally N) k o list) is
    (subst (λ (J : ℕ). AnsweredBy f N bound J (gap f (sum_in tally N) 1 k) o list) sums
    (subst (λ (ws : List ℕ). AnsweredBy f N bound J (gap f (sum_in ws N) 1 k) o list) same_words
    (subst (λ (n : ℕ). AnsweredBy f n bound J (gap f (sum_in words n) 1 k) o list) same_pages a)))
