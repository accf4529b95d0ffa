use Rattle.std.proofs.Common.{◌≡◌, ◌+◌, ◌-◌, sym, ap, ◌∙◌, arith}
use Rattle.std.proofs.Math.Decide.{ℕ_discrete}
use Rattle.solve.specs.Polynomials.{at}
use Rattle.solve.specs.Candidates.{candidates_of, codes_of, sum_at}
use Rattle.solve.proofs.Terms.{after_none, turn}
use Rattle.solve.proofs.verify.has_sums.Goals as goal

pub loop-value-init : goal.loop-value-init
loop-value-init g c = record { terms = c.copy_from_slice.ensures.after ∙ sym (after_none g.F.Field.ops c.args.coded.now); sums = λ j b. absurd (omega arith) }

pub loop-value-preserved : goal.loop-value-preserved
loop-value-preserved g c =
    let f = g.F.Field.ops in
    let cs = c.args.coded.now in
    let i = c.loop-value.value-index in
    let turned = turn g.met.F.Field.lawful cs _ _ i _ c.loop-value.invariant.terms c.next_sum.ensures.raised c.next_sum.ensures.sum in
    record {
      terms = turned.0;
      sums = λ j b. elim (ℕ_discrete j (i + 1)) [
        | yes e ↦
            ap (sum_at f (candidates_of cs) (codes_of cs)) e
            ∙ sym turned.1 ∙ c.if-next_sum-value.false ∙ ap (at c.args.values.now) (let w : i ≡ j - 1 = omega arith in w)
        | no d ↦ c.loop-value.invariant.sums j (omega arith)
      ];
    }

pub returns-then-next_sum-value : goal.returns-then-next_sum-value
returns-then-next_sum-value g c =
    let i = c.loop-value.value-index in
    let turned = turn g.met.F.Field.lawful c.args.coded.now _ _ i _ c.loop-value.invariant.terms c.next_sum.ensures.raised c.next_sum.ensures.sum in
    (λ e. absurd (cc), λ has. absurd (c.if-next_sum-value.true (turned.1 ∙ has (i + 1) (omega arith) ∙ ap (at c.args.values.now) (let w : i + 1 - 1 ≡ i = omega arith in w))))
