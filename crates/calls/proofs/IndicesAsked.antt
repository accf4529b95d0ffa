-- What the question of an asking is for may be asked for, and so what a request of that asking is for.
use Rattle.std.proofs.Common.{◌≡◌, ℕ, Option, sym, subst, inl, inr, arith}
use Rattle.wire.specs.declared.asked.Asked.{Asked}
use Rattle.wire.specs.declared.asked.Asked.TheVariants.{Sums, Signatures}
use Rattle.wire.specs.declared.request.Request.{Request}
use Rattle.calls.specs.declared.terms.Terms.{Terms}
use Rattle.calls.specs.declared.question.Question.{Question}
use Rattle.calls.specs.Runs.{Stage, first, second, closed, AsksOnly}
use Rattle.calls.proofs.FirstSums.{first_sums_between}
use Rattle.calls.proofs.Indices.{Index, Indices}
use Rattle.calls.proofs.Shapes.{StageAsks}

indices_of : (asked asked' : Asked) (N from to : ℕ) → asked ≡ asked' → Indices asked' N from to → Indices asked N from to
indices_of asked asked' N from to e all i w = subst (λ a. Index a N i) (sym e) (all i w)

pub question_indices : (t : Terms) (q : Question) (g : Stage) (only : Option ℕ) → AsksOnly g only → StageAsks t g q → Indices q.asked t.farm.pages q.first q.last
question_indices t q first only o (inl (plain, about)) = indices_of q.asked Signatures t.farm.pages q.first q.last about.0 (λ i w. omega (arith, about.1, about.2))
question_indices t q first only o (inr (not, about)) =
    indices_of q.asked Sums t.farm.pages q.first q.last about.0
    (λ i w. omega (arith, about.1, about.2, first_sums_between t.farm.stations t.farm.bound t.farm.bound_in.0, t.farm.bound_in.1))
question_indices t q (second k) only o (not, station, about) =
    indices_of q.asked Sums t.farm.pages q.first q.last about.0 (λ i w. omega (arith, about.1, about.2, t.farm.bound_in.1))
question_indices t q (closed way v) only o h = absurd o

pub request_indices : (t : Terms) (q : Question) (g : Stage) (only : Option ℕ) → AsksOnly g only → StageAsks t g q → (r : Request)
    → (r.asked ≡ q.asked) × (r.first ≡ q.first) × (r.last ≡ q.last) → Indices r.asked t.farm.pages r.first r.last
request_indices t q g only o asks r same i w = subst (λ a. Index a t.farm.pages i) (sym same.0) (question_indices t q g only o asks i (omega (arith, same)))
