-- What the first asking asks for, as numbers: never nothing, and no more than a station tells.
use Rattle.std.proofs.Common.{◌≡◌, ℕ, suc, ◌-◌, ◌≤◌, List, length, inl, inr, sym, subst, arith}
use Rattle.station.specs.Serving.{index_limit}
use Rattle.calls.specs.declared.terms.Terms.{Terms}
use Rattle.calls.specs.declared.question.Question.{Question}
use Rattle.calls.specs.Questions.{FirstAsks}
use Rattle.calls.specs.Opening.{Stands}
use Rattle.desk.specs.Going.{FirstDue}
use Rattle.calls.proofs.FirstSums.{first_sums_between, plain_short}

-- what holds of the numbers that a check knows holds of those that it stands by
pub by_terms : (P : ℕ → ℕ → ℕ → Type 0) (t : Terms) (number M N bound : ℕ) → Stands t number M N bound → P t.farm.stations t.farm.pages t.farm.bound → P M N bound
by_terms P t number M N bound stands p =
    subst (λ N. P M N bound) stands.2 (subst (λ M. P M t.farm.pages bound) stands.1 (subst (λ bound. P t.farm.stations t.farm.pages bound) stands.3 p))

module _ (t : Terms) (q : Question) where
  pub due_is : FirstAsks t q → (d : ℕ) → FirstDue t.farm.stations t.farm.pages t.farm.bound d → suc q.last - q.first ≡ d
  due_is (inl (plain, (asked, from, to))) d (inl (p, is)) = omega (arith, from, to, is)
  due_is (inl (plain, (asked, from, to))) d (inr (p, is)) = absurd (p plain)
  due_is (inr (not, (asked, from, to))) d (inl (p, is)) = absurd (not p)
  due_is (inr (not, (asked, from, to))) d (inr (p, is)) = omega (arith, from, to, is)

  pub first_due : (M N bound : ℕ) → Stands t 1 M N bound → FirstAsks t q → (d : ℕ) → FirstDue M N bound d → suc q.last - q.first ≡ d
  first_due M N bound stands question = by_terms (λ M N bound. (d : ℕ) → FirstDue M N bound d → suc q.last - q.first ≡ d) t 1 M N bound stands (due_is question)

  pub first_short : FirstAsks t q → q.last ≤ 128
  first_short (inl (plain, (asked, from, to))) = omega (arith, plain_short t.farm.stations t.farm.pages t.farm.bound plain, first_sums_between t.farm.stations t.farm.bound t.farm.bound_in.0, t.farm.bound_in.1, to)
  first_short (inr (not, (asked, from, to))) = omega (arith, first_sums_between t.farm.stations t.farm.bound t.farm.bound_in.0, t.farm.bound_in.1, to)

  pub first_rising : FirstAsks t q → q.first ≤ q.last
  first_rising (inl (plain, (asked, from, to))) = omega (arith, t.farm.pages_in, from, to)
  first_rising (inr (not, (asked, from, to))) = omega (arith, first_sums_between t.farm.stations t.farm.bound t.farm.bound_in.0, t.farm.bound_in.1, from, to)

  pub first_answered : FirstAsks t q → (row : List ℕ) → length row ≡ t.farm.pages → q.last ≤ index_limit q.asked row
  first_answered (inl (plain, (asked, from, to))) row size = subst (λ k. q.last ≤ index_limit k row) (sym asked) (omega (arith, to, size))
  first_answered (inr (not, (asked, from, to))) row size = subst (λ k. q.last ≤ index_limit k row) (sym asked) (first_short (inr (not, (asked, from, to))))
