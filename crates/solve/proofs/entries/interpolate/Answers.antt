use Rattle.std.proofs.Common.{◌≡◌, ℕ, ◌-◌, ◌<◌, ◌≤◌, map, take, length, sym, ap, ◌∙◌, subst, arith, get_or-take, length-take-le}
use Rattle.std.proofs.lemmas.List.{take_all}
use Rattle.solve.specs.Polynomials.{at, interpolated}
use Rattle.solve.specs.Candidates.{pages_of, points_of, codes_of, RisingIn, Forced}
use Rattle.solve.proofs.Coding.{coded_by, candidates_coded, codes_coded}
use Rattle.solve.proofs.Recovery.{entry_is}
use Rattle.solve.proofs.entries.interpolate.Goals as goal

pub returns : goal.returns
returns g c =
    let f = g.F.Field.ops in
    let l = g.met.F.Field.lawful in
    let cs = c.as_slice-candidates.result.now in
    let same = c.as_slice-candidates.ensures.value in
    let values = c.args.values.now in
    let coded = c.loop-candidate.coded.items in
    let m = length cs in
    let known : m ≤ length values = omega (arith, ap length same, c.requires) in
    let vs = take m values in
    let p = at c.product-product.result in
    let w : ℕ → ℕ = λ x. interpolated f (length vs) p x (at vs) in
    let is = c.loop-candidate.invariant ∙ ap (map (coded_by w)) (take_all c.loop-candidate.candidate-index cs c.loop-candidate-test.false) in
    let code : (i : ℕ) → i < m → at (codes_of coded) i ≡ interpolated f m p (at (points_of cs) i) (at vs) = λ i b.
    ap (λ xs. at (codes_of xs) i) is ∙ codes_coded w cs i b ∙ ap (λ n. interpolated f n p (at (points_of cs) i) (at vs)) (length-take-le m values known) in
    record {
      candidates = ap (map (λ c. c.candidate)) is ∙ candidates_coded w cs ∙ same;
      codes = subst (λ cs. (i : ℕ) → i < length cs → at (codes_of coded) i < f.size) same (λ i b. subst (λ (y : ℕ). y < f.size) (sym (code i b)) (l.times_code _ _));
      forced = λ N le. subst (λ cs. RisingIn f N cs → Forced f N cs values (codes_of coded)) same (λ rising e small support sums i b.
          entry_is l g.met.F.Field.spread N le vs m e small (λ j b. sums j b ∙ sym (get_or-take m values (j - 1) 0 (omega arith))) m (at (pages_of cs)) (at (points_of cs)) p
          rising c.product-product.ensures (omega arith) support i b
          ∙ sym (code i b));
    }
