use Rattle.std.proofs.Common.{◌≡◌, ℕ, ◌+◌, ◌<◌, ◌++◌, List, map, take, drop, set, length, get_or, sym, ap, ◌∙◌, ap₂, arith, length-take-le, get_or-drop}
use Rattle.std.proofs.lemmas.List.{get_or-map, get_or-append-add, get_or_default, length-map}
use Rattle.std.proofs.lemmas.List.Edits.{map_over_more}
use Rattle.solve.specs.declared.entries.Coded.{Coded}
use Rattle.solve.specs.Polynomials.{at}
use Rattle.solve.specs.Candidates.{codes_of, raised}
use Rattle.solve.proofs.Coding.{none, code_is}
use Rattle.solve.proofs.Terms.{total_more}
use Rattle.solve.proofs.verify.next_sum.Goals as goal

-- the next term is what it was
untouched : (f : Coded → Coded) (cs : List Coded) (i : ℕ) → i < length cs → get_or (map f (take i cs) ++ drop i cs) i none ≡ get_or cs i none
untouched f cs i b =
    let long : i ≡ length (map f (take i cs)) + 0 = omega (arith, length-map (take i cs) f, length-take-le i cs (omega arith)) in
    ap (λ n. get_or (map f (take i cs) ++ drop i cs) n none) long ∙ get_or-append-add (map f (take i cs)) (drop i cs) 0 none
    ∙ get_or-drop i cs 0 none ∙ ap (λ n. get_or cs n none) (let e : i + 0 ≡ i = omega arith in e)

pub loop-term-preserved : goal.loop-term-preserved
loop-term-preserved g c =
    let f = g.F.Field.ops in
    let old = c.args.terms.now in
    let now = c.loop-term.terms in
    let i = c.loop-term.term-index in
    let x = get_or now i none in
    let in_old = c.loop-term-test.true in
    let same : x ≡ get_or old i none = ap (λ cs. get_or cs i none) c.loop-term.invariant.terms ∙ untouched (raised f) old i in_old in
    let long : i < length now = omega (arith, c.loop-term.auto.terms) in
    record {
      terms = ap (λ y. set now i (record { candidate = x.candidate; code = y })) c.mul-term.ensures
          ∙ map_over_more (raised f) old now i x in_old c.loop-term.invariant.terms (get_or_default now i none x long);
      sum = c.add-sum.ensures ∙ ap₂ f.plus c.loop-term.invariant.sum
          (c.mul-term.ensures ∙ ap (λ y. (raised f y).code) same ∙ sym (code_is (map (raised f) old) i (simp length-map in_old) ∙ ap (λ y. y.code) (get_or-map (raised f) old i none none in_old)))
          ∙ total_more f i (at (codes_of (map (raised f) old)));
    }
