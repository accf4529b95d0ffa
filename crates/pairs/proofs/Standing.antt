-- What follows for any two stations from what is answered of each pair.
use Rattle.std.proofs.Common.{◌≡◌, ℕ, ◌/◌, ◌<◌, ◌≤◌, Bool, true, false, cond, ltb, is_none, ◌⊎◌, ◌↔◌, List, Some, None, Option, get_or, slice_get, sym, refl, ap, ◌∙◌, subst, inl, inr, arith, le-ltb, lt-ltb}
use Rattle.std.specs.Option.{unwrap_or}
use Rattle.std.proofs.lemmas.Option.{slice_get_cases}
use borrow.Author.Tests.{both_ways}
use Rattle.field.specs.Field.{Ops, Laws, Spread}
use Rattle.algebra.specs.Vectors.{weight}
use Rattle.solve.specs.declared.Entry.{Entry}
use Rattle.solve.specs.Answer.{code_at, Entries}
use Rattle.scheme.specs.Farm.{Table}
use Rattle.scheme.specs.Pairs.{Pair, Disjoint}
use Rattle.scheme.specs.Differences.{gap, Solution, Unsolved, Suspect}
use Rattle.scheme.specs.Theorem.{Answers}
use Rattle.scheme.proofs.Suspects.{suspect_by_answers}
use Rattle.pairs.specs.declared.difference.Difference.{Difference}
use Rattle.pairs.specs.declared.pair_gaps.PairGaps.{PairGaps}
use Rattle.pairs.specs.Difference.{AnsweredBy, Answered}
use Rattle.pairs.specs.Held.{pair_place, held, solved_code, solved_weight, code_of, unsolved_in, weight_in, gaps_in}
use Rattle.pairs.specs.Suspects.{SuspectIn}
use Rattle.pairs.specs.Solving.{PairsSolved}
use Rattle.pairs.proofs.Places.{place_fits}

held_is : (g : PairGaps) (s t : ℕ) → 1 ≤ s → s < t → t ≤ 8 → held g s t ≡ slice_get g.pairs (pair_place s t)
held_is g s t a b d =
    ap (λ x. cond x (cond (ltb s t) (cond (ltb t 9) (slice_get g.pairs (pair_place s t)) None) None) None) (lt-ltb 0 s (omega arith))
    ∙ ap (λ x. cond x (cond (ltb t 9) (slice_get g.pairs (pair_place s t)) None) None) (lt-ltb s t b)
    ∙ ap (λ x. cond x (slice_get g.pairs (pair_place s t)) None) (lt-ltb t 9 (omega arith))

-- ── the difference of two stations
module _ (f : Ops) (g : PairGaps) where
  pub forward : (s t : ℕ) → s < t → gaps_in f g s t ≡ code_of g s t
  forward s t lt = ap (λ b n. cond b (code_of g s t n) (cond (ltb t s) (f.minus 0 (code_of g t s n)) 0)) (lt-ltb s t lt)

  backward : (s t n : ℕ) → s < t → gaps_in f g t s n ≡ f.minus 0 (code_of g s t n)
  backward s t n lt =
      ap (λ b. cond b (code_of g t s n) (cond (ltb s t) (f.minus 0 (code_of g s t n)) 0)) (le-ltb t s (omega arith))
      ∙ ap (λ b. cond b (f.minus 0 (code_of g s t n)) 0) (lt-ltb s t lt)

  pub turned : (s t n : ℕ) → s < t → gaps_in f g t s n ≡ f.minus 0 (gaps_in f g s t n)
  turned s t n lt = backward s t n lt ∙ ap (λ e. f.minus 0 (e n)) (sym (forward s t lt))

  pub same : (s n : ℕ) → gaps_in f g s s n ≡ 0
  same s n = ap (λ b. cond b (code_of g s s n) (cond b (f.minus 0 (code_of g s s n)) 0)) (le-ltb s s (omega arith))

-- ── the answers
-- a difference is held, and answers the sums
abbrev AnsweredIn : (f : Ops) (N h : ℕ) (T : Table) (s t : ℕ) → Option Difference → Type 0
AnsweredIn f N h T s t (Some x) = Answered f N (h / 2) h (gap f T s t) x
AnsweredIn f N h T s t None = ⊥

module _ {f : Ops} (laws : Laws f) (spread : Spread f) (N h : ℕ) (T : Table) (g : PairGaps) (places : N ≤ f.places)
    (all : (s t : ℕ) (d : Difference) → Pair g.stations s t → Answered f N (h / 2) h (gap f T s t) (get_or g.pairs (pair_place s t) d)) where
  abbrev M : ℕ
  M = g.stations

  abbrev D : ℕ → ℕ → ℕ → ℕ
  D = gaps_in f g

  answered : (s t : ℕ) → Pair M s t → AnsweredIn f N h T s t (held g s t)
  answered s t p =
      let few : t ≤ 8 = omega (arith, p.2, g.few) in
      let cases = (slice_get_cases g.pairs (pair_place s t)).1 in
      subst (AnsweredIn f N h T s t) (sym (held_is g s t p.0 p.1 few)) (elim cases [
        | inl x ↦ subst (AnsweredIn f N h T s t) (sym x.2) (subst (Answered f N (h / 2) h (gap f T s t)) x.3 (all s t x.0 p))
        | inr x ↦ absurd (omega (arith, x.0, g.full, place_fits s t p.0 p.1 few))
      ])

  module _ (s t : ℕ) where
    none_by : (o : Option ℕ) (list : List Entry) → AnsweredBy f N (h / 2) h (gap f T s t) o list → is_none o ≡ true → Unsolved f N h T s t
    none_by (Some m) list a e = absurd (both_ways false refl e)
    none_by None list a e = a

    some_by : (o : Option ℕ) (list : List Entry) → AnsweredBy f N (h / 2) h (gap f T s t) o list → is_none o ≡ false →
        Solution f N h T s t (code_at list) × ((e : ℕ → ℕ) → Solution f N h T s t e → weight N e ≡ unwrap_or o 0) × Entries N (unwrap_or o 0) list
    some_by (Some m) list a e = (a.solves, a.weighs, a.listed)
    some_by None list a e = absurd (both_ways true e refl)

    none : (o : Option Difference) → AnsweredIn f N h T s t o → is_none (solved_weight o) ≡ true → Unsolved f N h T s t
    none (Some x) a e = none_by x.weight x.list a e
    none None a e = absurd a

    some : (o : Option Difference) → AnsweredIn f N h T s t o → is_none (solved_weight o) ≡ false →
        Solution f N h T s t (solved_code o) × ((e : ℕ → ℕ) → Solution f N h T s t e → weight N e ≡ unwrap_or (solved_weight o) 0)
    some (Some x) a e = let b = some_by x.weight x.list a e in (b.0, b.1)
    some None a e = absurd a

    list_of : (o : Option Difference) → AnsweredIn f N h T s t o → is_none (solved_weight o) ≡ false → (x : Difference) → o ≡ Some x → Entries N (unwrap_or (solved_weight o) 0) x.list
    list_of (Some y) a e x is = subst (λ (z : Difference). Entries N (unwrap_or y.weight 0) z.list) (let q : y ≡ x = cc in q) (some_by y.weight y.list a e).2
    list_of None a e x is = absurd a

  solution : (s t : ℕ) → Pair M s t → unsolved_in g s t ≡ false → Solution f N h T s t (D s t)
  solution s t p e = subst (Solution f N h T s t) (sym (forward f g s t p.1)) (some s t (held g s t) (answered s t p) e).0

  answers : Answers f M N h T (unsolved_in g) D
  answers s t p = (none s t (held g s t) (answered s t p), solution s t p)

  either : (s t : ℕ) → Pair M s t → (b : Bool) → unsolved_in g s t ≡ b → Solution f N h T s t (D s t) ⊎ Unsolved f N h T s t
  either s t p true e = inr ((answers s t p).0 e)
  either s t p false e = inl ((answers s t p).1 e)

  weights : (s t : ℕ) → Pair M s t → unsolved_in g s t ≡ false → (e : ℕ → ℕ) → Solution f N h T s t e → weight N e ≡ weight_in g s t
  weights s t p e = (some s t (held g s t) (answered s t p) e).1

  own : (s t : ℕ) → Pair M s t → unsolved_in g s t ≡ false → weight N (D s t) ≡ weight_in g s t
  own s t p e = weights s t p e (D s t) (solution s t p e)

  suspects : (s t : ℕ) → Pair M s t → Suspect f M N h T s t ↔ SuspectIn M g s t
  suspects s t p = (λ x. there (by.0 x), λ x. by.1 (back x))
    where
      By : Type 0
      By = (unsolved_in g s t ≡ true) ⊎ ((unsolved_in g s t ≡ false) × ((u v : ℕ) → Pair M u v → Disjoint s t u v → (unsolved_in g u v ≡ false) × (weight N (D u v) < weight N (D s t))))

      by : Suspect f M N h T s t ↔ By
      by = suspect_by_answers f laws spread M N h places T (unsolved_in g) D answers s t p

      there : By → SuspectIn M g s t
      there (inl e) = inl e
      there (inr x) = inr (x.0, λ u v q d. let r = x.1 u v q d in (r.0, omega (arith, r.1, own u v q r.0, own s t p x.0)))

      back : SuspectIn M g s t → By
      back (inl e) = inl e
      back (inr x) = inr (x.0, λ u v q d. let r = x.1 u v q d in (r.0, omega (arith, r.1, own u v q r.0, own s t p x.0)))

  solved_here : PairsSolved f M N h T g
  solved_here = record {
    size = refl;
    answers = answers;
    differences = record {
      pairs = λ s t p. either s t p (unsolved_in g s t) refl;
      turned = λ s t n p _. turned f g s t n p.1;
      same = λ s n _ _. same f g s n;
    };
    weights = weights;
    listed = λ s t x p e is. list_of s t (held g s t) (answered s t p) e x is;
    suspects = suspects;
  }

pub pairs_solved : {f : Ops} → Laws f → Spread f → (M N h : ℕ) (T : Table) (g : PairGaps) → N ≤ f.places → g.stations ≡ M →
    ((s t : ℕ) (d : Difference) → Pair g.stations s t → Answered f N (h / 2) h (gap f T s t) (get_or g.pairs (pair_place s t) d)) → PairsSolved f M N h T g
pairs_solved {f} laws spread M N h T g places is all = subst (λ k. PairsSolved f k N h T g) is (solved_here laws spread N h T g places all)
