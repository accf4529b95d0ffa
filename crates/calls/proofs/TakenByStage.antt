-- How much a check has taken at each stage, and that it is never more than the most.
use Rattle.std.proofs.Common.{◌≡◌, ℕ, ◌+◌, ◌-◌, ◌*◌, ◌≤◌, ap, inl, inr, arith, mul-le-mul_left}
use Rattle.field.specs.Field.{Ops}
use Rattle.scheme.specs.Askings.{first_sums, all_sums}
use Rattle.calls.specs.declared.terms.Terms.{Terms}
use Rattle.calls.specs.declared.question.Question.{Question}
use Rattle.calls.specs.declared.book.Book.{Book}
use Rattle.calls.specs.Questions.{PlainTerms, FirstAsks, SecondAsks}
use Rattle.calls.specs.Slips.{standing}
use Rattle.calls.specs.Promise.{most_taken}
use Rattle.calls.specs.Runs.{Stage, first, second, closed}
use Rattle.calls.proofs.Shapes.{Shape}
use Rattle.calls.proofs.RepliesIn.{reply_in, reply_in_most, replies_in, replies_in_most}
use Rattle.calls.proofs.MostTaken.{most_pages, most_sums}
use Rattle.calls.proofs.ValuesPerReply.{per_reply}

-- the most that a check on these terms takes
abbrev pub most_of : Terms → ℕ
most_of t = most_taken t.farm.stations t.farm.pages t.farm.bound

-- every first sum of the stations 2 .. M
abbrev pub all_first : Terms → ℕ
all_first t = first_sums t.farm.stations t.farm.bound * (t.farm.stations - 1)

-- each reply that is in, of the first asking and of the second, has as many values as its question is for
abbrev pub TakenBy : Book → Stage → Type 0
TakenBy b first = b.counts.taken ≡ per_reply b.question * replies_in b.terms.farm.stations b.standings
TakenBy b (second k) = b.counts.taken ≡ all_first b.terms + per_reply b.question * reply_in (standing b k)
TakenBy b (closed way v) = b.counts.taken ≤ most_of b.terms

-- what the questions are for, as a number
pub sums_due : (t : Terms) (q : Question) → FirstAsks t q → ¬ PlainTerms t → per_reply q ≡ first_sums t.farm.stations t.farm.bound
sums_due t q (inl x) not = absurd (not x.0)
sums_due t q (inr x) not = omega (arith, x.1.1, x.1.2)

second_due : (t : Terms) (q : Question) → SecondAsks t q → per_reply q ≡ all_sums t.farm.pages t.farm.bound - first_sums t.farm.stations t.farm.bound
second_due t q x = omega (arith, x.1, x.2)

-- all replies of the first asking
first_most : (t : Terms) (q : Question) → FirstAsks t q → per_reply q * (t.farm.stations - 1) ≤ most_of t
first_most t q (inl x) =
    let due : per_reply q ≡ t.farm.pages = omega (arith, x.1.1, x.1.2) in
    omega (arith, ap (λ d. d * (t.farm.stations - 1)) due, most_pages t.farm.stations t.farm.pages t.farm.bound t.farm.stations_in.0 t.farm.bound_in.0 x.0)
first_most t q (inr x) =
    omega (arith, ap (λ d. d * (t.farm.stations - 1)) (sums_due t q (inr x) x.0), most_sums t.farm.stations t.farm.pages t.farm.bound t.farm.stations_in.0 t.farm.bound_in.0 x.0)

pub taken_few : (f : Ops) (b : Book) (g : Stage) → Shape f b g → TakenBy b g → b.counts.taken ≤ most_of b.terms
taken_few f b first shape taken =
    let t = b.terms in
    omega (arith, taken, mul-le-mul_left (per_reply b.question) (replies_in_most t.farm.stations b.standings), first_most t b.question shape.question)
taken_few f b (second k) shape taken =
    let t = b.terms in
    omega (
      arith,
      taken,
      second_due t b.question shape.question.2,
      mul-le-mul_left (per_reply b.question) (reply_in_most (standing b k)),
      most_sums t.farm.stations t.farm.pages t.farm.bound t.farm.stations_in.0 t.farm.bound_in.0 shape.question.0,
    )
taken_few f b (closed way v) shape taken = taken
