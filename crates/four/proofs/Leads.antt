-- The sum of the front of an array, as that of the row it holds; that all sums are enough; and what is answered of the difference from the leads.
use Rattle.std.proofs.Common.{◌≡◌, ℕ, ◌-◌, ◌*◌, ◌≤◌, inl, inr, ⊎_elim, List, length, take, is_some, true, false, Some, None, Option, sym, ap, ◌∙◌, arith}
use Rattle.std.proofs.lemmas.List.{length-take-le, get_or-take}
use Rattle.std.proofs.lemmas.Bool.{cases_lt}
use Rattle.field.specs.Field.{Ops, power}
use Rattle.field.specs.Sums.{entry, power_sum}
use Rattle.field.proofs.Sums.{total_same}
use Rattle.algebra.specs.Vectors.{Page, Solves}
use Rattle.solve.specs.declared.Entry.{Entry}
use Rattle.solve.specs.Answer.{code_at}
use Rattle.pairs.specs.Difference.{AnsweredBy}
use Rattle.solve.specs.Solution.{Enough}
use Rattle.scheme.specs.Askings.{all_sums}

pub front_sum : (f : Ops) (row : List ℕ) (N : ℕ) (e : ℕ → ℕ) (j : ℕ) → N ≤ length row → ((n : ℕ) → Page N n → entry row n ≡ e n) →
    power_sum f (length (take N row)) (entry (take N row)) j ≡ power_sum f N e j
front_sum f row N e j fits is =
    ap (λ n. power_sum f n (entry (take N row)) j) (length-take-le N row fits)
    ∙ total_same f N _ _ (λ k from to.
    ap (λ x. f.times x (power f f.alpha (j * k))) (get_or-take N row (k - 1) 0 (omega arith) ∙ is k (from, to)))

-- all sums are enough for the bound
pub enough : (N bound : ℕ) → bound ≤ 64 → Enough N bound (all_sums N bound)
enough N bound small = (⊎_elim (λ h. inr (omega arith)) (λ h. inl (omega arith)) (cases_lt (2 * bound) N), omega arith)

-- the same is answered of the same sums
module _ (f : Ops) (N w J : ℕ) (s t : ℕ → ℕ) (same : (j : ℕ) → Page J j → s j ≡ t j) where
  there : (e : ℕ → ℕ) → Solves f N w J s e → Solves f N w J t e
  there e x = record { codes = x.codes; light = x.light; sums = λ j b. x.sums j b ∙ same j b }

  back : (e : ℕ → ℕ) → Solves f N w J t e → Solves f N w J s e
  back e x = record { codes = x.codes; light = x.light; sums = λ j b. x.sums j b ∙ sym (same j b) }

  pub same_answer : (o : Option ℕ) (list : List Entry) → AnsweredBy f N w J s o list → AnsweredBy f N w J t o list
  same_answer (Some m) list h = record { listed = h.listed; solves = there _ h.solves; weighs = λ e x. h.weighs e (back e x) }
  same_answer None list h = λ e x. h e (back e x)

-- nothing is the difference from the leads, or the list is
pub none_leads : (f : Ops) (N w J : ℕ) (s : ℕ → ℕ) (o : Option ℕ) (list : List Entry) → AnsweredBy f N w J s o list → is_some o ≡ false → (e : ℕ → ℕ) → ¬ Solves f N w J s e
none_leads f N w J s (Some m) list a is = absurd cc
none_leads f N w J s None list a is = a

pub some_leads : (f : Ops) (N w J : ℕ) (s : ℕ → ℕ) (o : Option ℕ) (list : List Entry) → AnsweredBy f N w J s o list → is_some o ≡ true → Solves f N w J s (code_at list)
some_leads f N w J s (Some m) list a is = a.solves
some_leads f N w J s None list a is = absurd cc
