use Rattle.std.proofs.Common.{◌≡◌, ℕ, ◌+◌, ◌-◌, ◌<◌, ◌≤◌, List, length, Option, MatchOption, refl, inl, inr, ap, subst, arith, rules}
use borrow.Author.Tests.{tests}
use Rattle.std.proofs.Math.Decide.{dec_le}
use Rattle.std.specs.List.{AllWithin, HoldsAt}
use Rattle.std.proofs.lemmas.List.{get_or_past}
use Rattle.std.proofs.lemmas.Iterator.{YieldsList-from_slice, IsFirst-from_position}
use Rattle.field.specs.Field.{Ops, Laws}
use Rattle.refusal.specs.Rules.{LowestAt}
use Rattle.solve.specs.Polynomials.{at}
use Rattle.solve.specs.Solution.{NoCode}
use Rattle.solve.proofs.answer.accept.Goals as goal

-- the first value that is no code stands at place i
abbrev FirstAt : Ops → List ℕ → Option ℕ → Type 0
FirstAt f values r = MatchOption r (AllWithin (λ v. v < f.size) values 0 (length values)) (λ i. (i < length values) × HoldsAt (λ v. f.size ≤ v) values i × AllWithin (λ v. v < f.size) values 0 i)

lowest_at : (f : Ops) (values : List ℕ) (i : ℕ) → (i < length values) × HoldsAt (λ v. f.size ≤ v) values i × AllWithin (λ v. v < f.size) values 0 i → LowestAt (NoCode f values) (i + 1)
lowest_at f values i (lt, big, code) = (
  omega arith,
  omega (arith, big 0, ap (at values) (let e : i + 1 - 1 ≡ i = omega arith in e)),
  λ k lo hi no. omega (arith, code (k - 1) 0 (omega arith) (omega arith)),
)

all_codes : {f : Ops} (l : Laws f) (values : List ℕ) → AllWithin (λ v. v < f.size) values 0 (length values) → (k : ℕ) → 1 ≤ k → NoCode f values k → ⊥
all_codes l values code k lo big = elim (dec_le (length values) (k - 1)) [
  | yes past ↦ omega (arith, get_or_past values (k - 1) 0 past, l.size_least)
  | no h ↦ omega (arith, code (k - 1) 0 (omega arith) (omega arith))
]

pub returns-in-Some : goal.returns-in-Some
returns-in-Some g c =
    let f = g.F.Field.ops in
    let values = c.args.values.now in
    let first = subst (FirstAt f values) c.in-Some.is
    (IsFirst-from_position _ _ c.position.result (λ v. f.size ≤ v) (λ v. v < f.size) c.position.ensures.ran (YieldsList-from_slice values (cc)) (λ x q k. search (rules, tests)) (λ x q k. search (rules, tests))) in
    inr (search rules, inr (search rules, inl (refl, lowest_at f values c.in-Some.before first)))

pub returns-in-None : goal.returns-in-None
returns-in-None g c =
    let f = g.F.Field.ops in
    let values = c.args.values.now in
    let none = subst (FirstAt f values) c.in-None.is
    (IsFirst-from_position _ _ c.position.result (λ v. f.size ≤ v) (λ v. v < f.size) c.position.ensures.ran (YieldsList-from_slice values (cc)) (λ x q k. search (rules, tests)) (λ x q k. search (rules, tests))) in
    (search rules, (search rules, (all_codes g.met.F.Field.lawful values none, tt)))
