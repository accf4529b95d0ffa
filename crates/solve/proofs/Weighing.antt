-- How many codes are not 0, counted from the first on.
use Rattle.std.proofs.Common.{◌≡◌, ℕ, zero, suc, ◌+◌, ◌-◌, ◌≤◌, Bool, not, eqb, List, take, length, get_or, count_by, sym, refl, ap, ◌∙◌, add-one, arith, eq-eqb, ne_eqb}
use Rattle.std.proofs.Math.Decide.{ℕ_discrete}
use Rattle.std.proofs.lemmas.List.Sums.{count_by_more_yes, count_by_more_no}
use Rattle.field.specs.Sums.{entry}
use Rattle.algebra.specs.Vectors.{counted, weight}
use Rattle.solve.specs.declared.entries.Coded.{Coded}
use Rattle.solve.specs.Polynomials.{at}
use Rattle.solve.specs.Candidates.{codes_of}
use Rattle.solve.proofs.Coding.{none, code_is}

abbrev pub some : Coded → Bool
some c = not (eqb c.code 0)

pub counted_some : (a k : ℕ) → ¬ (a ≡ 0) → k + 1 ≡ counted a k
counted_some zero k d = absurd (d refl)
counted_some (suc a) k d = add-one k

pub weight_counts : (cs : List Coded) (i : ℕ) → i ≤ length cs → count_by some (take i cs) ≡ weight i (entry (codes_of cs))
weight_counts cs zero b = refl
weight_counts cs (suc i) b =
    let code = (get_or cs i none).code in
    let here : entry (codes_of cs) (suc i) ≡ code = ap (at (codes_of cs)) (let e : suc i - 1 ≡ i = omega arith in e) ∙ code_is cs i (omega arith) in
    ap (λ n. count_by some (take n cs)) (sym (add-one i)) ∙ elim (ℕ_discrete code 0) [
      | yes z ↦ count_by_more_no some cs i none (omega arith) (ap not (eq-eqb code 0 z)) ∙ weight_counts cs i (omega arith) ∙ sym (ap (λ y. counted y (weight i (entry (codes_of cs)))) (here ∙ z))
      | no d ↦ count_by_more_yes some cs i none (omega arith) (ap not (ne_eqb code 0 d)) ∙ ap (λ n. n + 1) (weight_counts cs i (omega arith)) ∙ counted_some code _ d ∙ sym (ap (λ y. counted y (weight i (entry (codes_of cs)))) here)
    ]
